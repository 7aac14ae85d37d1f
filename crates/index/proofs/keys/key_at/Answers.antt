-- A digit of the row, 10 at most.
use mathlib.Core.Path.{◌≡◌, sym, ◌∙◌}
use native.Mathlib.Omega.{arith}
use Rattle.labels.specs.Roles.{role_number}
use Rattle.labels.proofs.Numbers.{role_few, turned}
use Rattle.index.specs.Keys.{key_at}
use Rattle.index.proofs.Keyed.{key-few}
use Rattle.index.proofs.keys.key_at.Goals as goal

pub returns : goal.returns
returns c =
    let a = c.args in
    let e : c.digit.result ≡ key_at (role_number a.above) a.k = c.digit.ensures ∙ c.before.«slot_keys».ensures.at _ (omega arith) in
    let h = key-few (role_number a.above) a.k (role_few a.above).1 (omega arith) in
    turned c.numbered_name.result c.numbered_name.ensures (λ l. omega arith) (λ n q. sym e ∙ sym q)
