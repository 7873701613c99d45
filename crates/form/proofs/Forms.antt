-- What 1 to 5 leave: the numbers of the trailer are within their limits, and both sections lie in the file.
-- Assumes nothing.
use Rattle.std.proofs.Common.{◌≡◌, ℕ, ◌+◌, ◌*◌, ◌<◌, ◌≤◌, Bool, true, false, ◌||◌, eqb, ltb, List, length, Ok, Some, is_none, refl, arith, ltb-false, eqb-true}
use Rattle.std.proofs.Math.Bool.{and-eq-true_iff}
use Rattle.std.proofs.lemmas.Bool.{or_parts, eqb-false, not-false}
use Rattle.refusals.specs.declared.Refusal.TheVariants.{Short, Mark, Length, Count, Layout}
use Rattle.refusals.specs.Refusals.{refuse}
use Rattle.refusals.proofs.Refused.{or_else_sound, refuse-sound}
use Rattle.trailer.specs.declared.Part.{Part}
use Rattle.trailer.specs.Trailer.{trailer_size, trailer_of, mark_of, mark_or_CP}
use Rattle.trailer.proofs.Marks.{mark_some}
use Rattle.channel.specs.declared.Side.{Side}
use Rattle.channel.specs.declared.Side.TheVariants.{Top, Bottom}
use Rattle.format.specs.Format.{record_size, part_of}
use Rattle.form.specs.Form.{follows, laid_out, trailer_check, form_of}

-- of two sections that fill a file before its trailer, the one that follows and the one that starts it end in the file
module _ (first second : Part) (len : ℕ) (size : len ≡ record_size * (first.count + second.count) + trailer_size) where
  follows_room : follows first second ≡ true
      → (first.at + record_size * first.count ≤ len) × (second.at + record_size * second.count ≤ len)
  follows_room h =
      let (z, e) = (and-eq-true_iff (eqb first.at 0) (eqb second.at (record_size * first.count))).0 h in
      let z' : first.at ≡ 0 = eqb-true first.at 0 z in
      let e' : second.at ≡ record_size * first.count = eqb-true second.at (record_size * first.count) e in
      (omega arith, omega arith)

laid_out_room :
    (top bottom : Part) (len : ℕ) → laid_out top bottom len ≡ true
    → (top.at + record_size * top.count ≤ len) × (bottom.at + record_size * bottom.count ≤ len)
unfolding laid_out
laid_out_room top bottom len h =
    let (n, either) =
    (and-eq-true_iff (eqb len (record_size * (top.count + bottom.count) + trailer_size))
    (follows top bottom || follows bottom top)).0 h in
    by_order (eqb-true len (record_size * (top.count + bottom.count) + trailer_size) n) (follows top bottom) refl either
  where
    by_order :
        len ≡ record_size * (top.count + bottom.count) + trailer_size → (t : Bool) → follows top bottom ≡ t
        → (t || follows bottom top) ≡ true
        → (top.at + record_size * top.count ≤ len) × (bottom.at + record_size * bottom.count ≤ len)
    by_order size true e either = follows_room top bottom len size e
    by_order size false e either =
        let (b, t) = follows_room bottom top len (omega arith) either in
        (t, b)

-- what 1 to 5 leave of the trailer: its bytes are there, the mark is the one that its letters say, its numbers are within their limits, and
-- both sections lie in the file
pub record Formed (b : List ℕ) : Type 0 where
  pub long : trailer_size ≤ length b
  pub mark : mark_of b ≡ Some (mark_or_CP b)
  pub columns : (0 < (trailer_of b).columns) × ((trailer_of b).columns ≤ 64)
  pub count : (side : Side) → (part_of (trailer_of b) side).count ≤ 64
  pub room : (side : Side) → (part_of (trailer_of b) side).at + record_size * (part_of (trailer_of b) side).count ≤ length b

pub formed : (b : List ℕ) → form_of b ≡ Ok tt → Formed b
unfolding form_of trailer_check
formed b h =
    let t = trailer_of b in
    let (short, h₂) = or_else_sound (refuse (ltb (length b) trailer_size) Short) _ h in
    let (mark, h₃) = or_else_sound (refuse (is_none (mark_of b)) Mark) _ h₂ in
    let (columns, h₄) = or_else_sound (refuse (eqb t.columns 0 || ltb 64 t.columns) Length) _ h₃ in
    let (counts, layout) = or_else_sound (refuse (ltb 64 t.top.count || ltb 64 t.bottom.count) Count) _ h₄ in
    let (c₁, c₂) = or_parts (eqb t.columns 0) (ltb 64 t.columns) (refuse-sound _ Length columns) in
    let (p, q) = or_parts (ltb 64 t.top.count) (ltb 64 t.bottom.count) (refuse-sound _ Count counts) in
    let (top, bottom) = laid_out_room t.top t.bottom (length b) (not-false _ (refuse-sound _ Layout layout)) in
    let positive : t.columns ≡ 0 → ⊥ = eqb-false t.columns 0 c₁ in
    record {
      long = ltb-false (length b) trailer_size (refuse-sound _ Short short);
      mark = mark_some b (refuse-sound _ Mark mark);
      columns = (omega (arith, positive), ltb-false 64 t.columns c₂);
      count = elim [ Top ↦ ltb-false 64 t.top.count p | Bottom ↦ ltb-false 64 t.bottom.count q ];
      room = elim [ Top ↦ top | Bottom ↦ bottom ];
    }
