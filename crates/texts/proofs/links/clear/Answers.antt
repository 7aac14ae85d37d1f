-- The first 4,096 places hold what was filled in.
use Rattle.std.proofs.Common.{replicate, drop, ℕ, ◌∙◌, length-take-le}
use Rattle.std.proofs.lemmas.List.{get_or_append_left, get_or-replicate, length-replicate}
use Rattle.texts.proofs.links.clear.Goals as goal

pub returns : goal.returns
returns c =
    let links = c.args.links.now in
    rw (c.fill.ensures.after (λ y h. h), length-take-le 4096 links c.requires) λ u h.
    get_or_append_left (replicate 4096 0) (drop 4096 links) 0 u (rw (length-replicate {A = ℕ} 4096 0) h) ∙ get_or-replicate 4096 u 0 0 h
