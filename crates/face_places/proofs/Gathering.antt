-- The ranges of a zone's faces: none yet, one node more, all of them.
use Prim.Native.Nat.{ℕ, ◌+◌, ◌-◌, ◌≤◌, ◌<◌}
use mathlib.Core.Path.{◌≡◌, sym, ◌∙◌}
use mathlib.Core.Bool.{true, false, ◌&&◌}
use mathlib.Core.List.{List}
use native.Mathlib.Omega.{arith}
use lib.Dec.{eqb}
use lib.ListN.{length, get_or, set}
use lib.Seq.{get_or-set_other}
use Rattle.std.proofs.Common.{Option}
use Rattle.std.specs.Option.{is_some}
use Rattle.model.specs.Lists.{sum_before}
use Rattle.model.specs.Image.{Tree, tree_of, node_count}
use Rattle.model.specs.Given.{Accepted}
use Rattle.model.specs.Containment.{section_of}
use Rattle.model.specs.Elements.{NGON, element_type_of, first_element, in_range, face_section, has_face, face_of, section_with_face}
use Rattle.model.specs.FaceUsage.{faces_in, face_count, face_place}
use Rattle.model.proofs.Walks.{sum_before_step}
use Rattle.ranges.specs.Tables.{holds, in_ranges, meets_section, Found, Inserted, Placed}
use Rattle.ranges.proofs.Halving.{met, found_any}
use Rattle.ranges.proofs.Moving.{placed_every}
use Rattle.ranges.proofs.Gathering.{gathered_start, gathered_skip, gathered_more, gathered-room, gathered-has}
use Rattle.face_places.specs.declared.zone_sections.Span.{Span}
use Rattle.face_places.specs.ZoneSections.{Spans}
use Rattle.face_places.specs.Ranges.{Begins, Ranges}
use Rattle.face_places.proofs.Accepted.{count_read, face-section-is, face-ranged, faces_are, few-sections, apart, found-is, place_is, total-small}
use Rattle.face_places.proofs.Distinct.{placed-distinct}

-- a table with a number set behind its entries
pub placed-before : {x : ℕ} {xs ys : List ℕ} {n place : ℕ} (y : ℕ) → Placed x xs ys n place → place ≤ n → Placed x xs (set ys (n + 1) y) n place
placed-before {x} {xs} {ys} {n} {place} y p h =
    record {
      before = λ i l. get_or-set_other ys (n + 1) i y 0 (omega arith) ∙ p.before i l;
      here = get_or-set_other ys (n + 1) place y 0 (omega arith) ∙ p.here;
      after = λ i l u. get_or-set_other ys (n + 1) _ y 0 (omega arith) ∙ p.after i l u;
    }

module _ (t : Tree) (z : ℕ) where
  pub no_ranges : (firsts reach places : List ℕ) → get_or places 0 0 ≡ 0 → 0 < length places → Ranges t z 0 firsts reach places 0
  unfolding sum_before
  no_ranges firsts reach places e h = record { gathered = gathered_start _ _ _ firsts reach; begins = λ j l. absurd (omega arith); distinct = λ j k l. absurd (omega arith); total = e; room = h }

  later : {i first place : ℕ} → Begins t z i first place → Begins t z (i + 1) first place
  later g = record { section = g.section; earlier = omega (arith, g.earlier); brings = g.brings; first-is = g.first-is; place_is = g.place_is }

module _ {b : List ℕ} (a : Accepted b) {z s n : ℕ} {firsts reach places : List ℕ} (g : Ranges (tree_of b) z s firsts reach places n) where
  pub total-few : s ≤ node_count b → get_or places n 0 ≤ 8796093018112
  total-few h = omega (arith, g.total, total-small a z s h, a.sound.laid.few)

  -- a node that brings no faces
  pub same-ranges : s < node_count b → (section_of (tree_of b) z s && eqb (element_type_of (tree_of b) s) NGON) ≡ false
      → Ranges (tree_of b) z (s + 1) firsts reach places n
  unfolding faces_in
  same-ranges h o =
      let e = face-section-is a z s h ∙ o in
      record {
        gathered = gathered_skip g.gathered e;
        begins = λ j l. later _ _ (g.begins j l);
        distinct = g.distinct;
        total = g.total ∙ sym (sum_before_step (faces_in (tree_of b) z) s ∙ rw e (omega arith));
        room = g.room;
      }

  -- a node that brings its range
  module _ (h : s < node_count b) (o : (section_of (tree_of b) z s && eqb (element_type_of (tree_of b) s) NGON) ≡ true) where
    e : face_section (tree_of b) z s ≡ true
    e = face-section-is a z s h ∙ o

    pub room_for_lem : n < 2048
    room_for_lem = omega (arith, gathered-room g.gathered (node_count b) h e, few-sections a z)

    -- no earlier section begins with its first face
    other : (j : ℕ) → j < n → get_or firsts j 0 ≡ first_element (tree_of b) s → ⊥
    other j l f =
        let q = g.begins j l in
        let u = (face-ranged a z q.section (omega (arith, q.earlier)) q.brings).up in
        let v = (face-ranged a z s h e).up in
        let d = apart a z q.section s (omega (arith, q.earlier)) h q.brings e (omega (arith, q.first-is)) (omega (arith, q.first-is)) in
        omega (arith, q.earlier)

    pub more_ranges : {r : Span} → Spans b s r → {firsts' reach' places' : List ℕ} {place : ℕ}
        → Inserted firsts reach n r.first r.last firsts' reach' place
        → Placed (get_or places n 0) places places' n place × (get_or places' (n + 1) 0 ≡ get_or places n 0 + (r.last - r.first + 1))
        → 2049 ≤ length places' → Ranges (tree_of b) z (s + 1) firsts' reach' places' (n + 1)
    more_ranges q i w l =
        record {
          gathered = gathered_more g.gathered e q.is-first q.is_last i;
          begins =
              placed_every i.placed w.0 i.inside (Begins (tree_of b) z (s + 1))
              (record { section = s; earlier = omega arith; brings = e; first-is = q.is-first; place_is = g.total })
              (λ j k. later _ _ (g.begins j k));
          distinct = placed-distinct i.placed i.inside (λ j l e. other j l (e ∙ q.is-first)) g.distinct;
          total = w.1 ∙ sym (sum_before_step (faces_in (tree_of b) z) s ∙ rw (faces_are a z s h e, count_read q, ← g.total));
          room = omega (arith, room_for_lem);
        }

-- entry j holds face f, and tells its section and its place
pub record At (b : List ℕ) (z : ℕ) (firsts places : List ℕ) (n f j : ℕ) : Type 0 where
  pub inside : j < n
  pub from : get_or firsts j 0 ≤ f
  pub known : section_with_face (tree_of b) z f < node_count b
  pub has : has_face (tree_of b) z f (section_with_face (tree_of b) z f) ≡ true
  pub first-is : get_or firsts j 0 ≡ first_element (tree_of b) (section_with_face (tree_of b) z f)
  pub place : face_place (tree_of b) z f ≡ get_or places j 0 + (f - get_or firsts j 0)
  pub below : face_place (tree_of b) z f < face_count (tree_of b) z
  pub small : get_or places j 0 + (f - get_or firsts j 0) < 18446744073709551616

-- all of them
module _ {b : List ℕ} (a : Accepted b) {z n : ℕ} {firsts reach places : List ℕ} (g : Ranges (tree_of b) z (node_count b) firsts reach places n) where
  pub few-ranges : n ≤ 2048
  few-ranges = omega (arith, g.gathered.few, few-sections a z)

  pub all_faces : get_or places n 0 ≡ face_count (tree_of b) z
  unfolding face_count tree_of
  all_faces = g.total

  in_ranges_lem : (f : ℕ) → in_ranges firsts reach n f ≡ face_of (tree_of b) z f
  unfolding face_of has_face in_range meets_section tree_of
  in_ranges_lem f = g.gathered.meets f f

  -- a look-up of a face finds an entry
  pub face-there : (f : ℕ) (r : Option ℕ) → face_of (tree_of b) z f ≡ true → Found firsts reach n f f r → is_some r ≡ true
  face-there f r w o = found_any firsts reach f f n r o ∙ in_ranges_lem f ∙ w

  -- what the entry tells
  pub face-found : {f j : ℕ} → (j < n) × (holds firsts reach f j ≡ true) → At b z firsts places n f j
  unfolding has_face in_range meets_section
  face-found {f} {j} o =
      let q = g.begins j o.0 in
      let r = (face-ranged a z q.section q.earlier q.brings).up in
      let k = gathered-has g.gathered (apart a z) f j q.section o.0 o.1 q.earlier q.brings r q.first-is in
      let w = place_is a z q.section f q.earlier k in
      let s = found-is a z q.section f q.earlier k in
      let r : face_place (tree_of b) z f ≡ get_or places j 0 + (f - get_or firsts j 0) = w.0 ∙ rw (q.place_is, q.first-is) in
      record {
        inside = o.0;
        known = rw s q.earlier;
        has = rw s k;
        first-is = rw s q.first-is;
        from = (met firsts reach f f j o.1).0;
        place = r;
        below = w.1;
        small = omega (arith, w.1, r, all_faces, total-few a g (omega arith));
      }
