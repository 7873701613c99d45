-- Laws of the sheet check: what a sound sheet's trailer and sides say.
-- Assumes nothing.
use Rattle.std.proofs.Common.{◌≡◌, ℕ, true, List, Ok}
use Rattle.refusals.proofs.Refused.{or_else_sound}
use Rattle.trailer.specs.declared.Trailer.{Trailer}
use Rattle.trailer.specs.Trailer.{trailer_of, TrailerRead}
use Rattle.channel.specs.declared.Side.{Side}
use Rattle.channel.specs.declared.Side.TheVariants.{Top, Bottom}
use Rattle.format.specs.Format.{part_of}
use Rattle.form.specs.Form.{form_of}
use Rattle.form.proofs.Forms.{Formed, formed}
use Rattle.soundness.specs.Check.{side_check, terminals_of, check_of}

-- a sound sheet is formed, and each of its sides is sound
pub record Whole (b : List ℕ) : Type 0 where
  pub form : Formed b
  pub side : (side : Side) → side_check (trailer_of b).columns true (terminals_of b (part_of (trailer_of b) side)) ≡ Ok tt

pub whole : (b : List ℕ) → check_of b ≡ Ok tt → Whole b
unfolding check_of
whole b h =
    let (form, sides) = or_else_sound (form_of b) _ h in
    let (top, bottom) = or_else_sound (side_check (trailer_of b).columns true (terminals_of b (trailer_of b).top)) _ sides in
    record { form = formed b form; side = elim [ Top ↦ top | Bottom ↦ bottom ] }

-- the sides are checked of bytes that 1 to 5 leave, so the trailer's bytes are there
pub trailer_told : (b : List ℕ) (t : Trailer) → TrailerRead b t → form_of b ≡ Ok tt → t ≡ trailer_of b
trailer_told b t told form = told.long (formed b form).long
