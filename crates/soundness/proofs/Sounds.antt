-- What is read as a sheet is a sound sheet.
-- Assumes nothing.
use Rattle.std.proofs.Common.{◌≡◌, ℕ, Bool, true, false, not, eqb, List, [], ◌∷◌, Ok, Err, Result, refl, ap, arith}
use Rattle.std.proofs.lemmas.Bool.{not-false}
use Rattle.channel.specs.Sheet as channel
use Rattle.channel.specs.Sheet.{Terminal, Sheet, SoundTerminal, SoundFrom, distances_hold}
use Rattle.refusals.specs.declared.Refusal.{Refusal}
use Rattle.refusals.specs.declared.Refusal.TheVariants.{Net, Distance, Beyond}
use Rattle.refusals.specs.Refusals.{number_of}
use Rattle.channel.specs.declared.Side.TheVariants.{Top, Bottom}
use Rattle.trailer.specs.Trailer.{trailer_of}
use Rattle.format.proofs.Records.{part_terminals}
use Rattle.refusals.specs.Refusals.{refuse}
use Rattle.soundness.specs.Check.{terminal_check, side_check, terminals_of, check_of}
use Rattle.soundness.specs.Read.{read_as, sheet_of, read}
use Rattle.soundness.specs.Read.Read.{sound, refused}
use Rattle.refusals.proofs.Refused.{or_else_sound, refuse-sound}
use Rattle.soundness.proofs.Checks.{whole}

-- a terminal that 6, 7 and 8 leave is sound
terminal_sound : (l : ℕ) (is_first : Bool) (t : Terminal) → terminal_check l is_first t ≡ Ok tt → SoundTerminal l is_first t
unfolding terminal_check
terminal_sound l is_first t h =
    let (net, h₂) = or_else_sound (refuse (eqb t.net 0) Net) _ h in
    let (distances, above) = or_else_sound (refuse (not (distances_hold is_first t)) Distance) _ h₂ in
    record {
      net = refuse-sound _ Net net;
      distances = not-false _ (refuse-sound _ Distance distances);
      allowed = refuse-sound _ Beyond above;
    }

-- and so are those of a side
side-sound : (l : ℕ) (is_first : Bool) (ts : List Terminal) → side_check l is_first ts ≡ Ok tt → SoundFrom l is_first ts
side-sound l is_first [] h = tt
side-sound l is_first (t ∷ ts) h =
    let (first, later) = or_else_sound (terminal_check l is_first t) _ h in
    (terminal_sound l is_first t first, side-sound l false ts later)

-- of bytes that the check leaves
checked_sound : (b : List ℕ) → check_of b ≡ Ok tt → channel.Sound (sheet_of b)
unfolding sheet_of
checked_sound b h =
    let w = whole b h in
    let l = (trailer_of b).columns in
    record {
      columns = w.form.columns;
      counts = (
        rw (part_terminals b (trailer_of b).top (w.form.room Top)) (w.form.count Top),
        rw (part_terminals b (trailer_of b).bottom (w.form.room Bottom)) (w.form.count Bottom),
      );
      top = side-sound l true (terminals_of b (trailer_of b).top) (w.side Top);
      bottom = side-sound l true (terminals_of b (trailer_of b).bottom) (w.side Bottom);
    }

-- what bytes that the check leaves are read as, and what those are that it refuses
pub sound-read : (b : List ℕ) → check_of b ≡ Ok tt → read b ≡ sound (sheet_of b)
unfolding read
sound-read b h = ap (read_as (sheet_of b)) h

pub refused-read : (b : List ℕ) (why : Refusal) → check_of b ≡ Err why → read b ≡ refused (number_of why)
unfolding read
refused-read b why h = ap (read_as (sheet_of b)) h

-- the check leaves just the bytes that are read as a sheet
pub read_checked : (b : List ℕ) (s : Sheet) → read b ≡ sound s → (check_of b ≡ Ok tt) × (s ≡ sheet_of b)
unfolding read
read_checked b s h = by_check (check_of b) refl h
  where
    by_check : (r : Result Unit Refusal) → check_of b ≡ r → read_as (sheet_of b) r ≡ sound s → (check_of b ≡ Ok tt) × (s ≡ sheet_of b)
    by_check (Ok tt) e h = (e, cc)
    by_check (Err why) e h = let z : ◌≡◌ {A = ℕ} 0 1 = cc in absurd (omega arith)

-- and refuses the others, with the number of its refusal
pub read-refused : (b : List ℕ) (n : ℕ) → read b ≡ refused n → (why : Refusal) × (check_of b ≡ Err why) × (number_of why ≡ n)
unfolding read
read-refused b n h = by_check (check_of b) refl h
  where
    by_check :
        (r : Result Unit Refusal) → check_of b ≡ r → read_as (sheet_of b) r ≡ refused n → (why : Refusal) × (check_of b ≡ Err why) × (number_of why ≡ n)
    by_check (Ok tt) e h = let z : ◌≡◌ {A = ℕ} 0 1 = cc in absurd (omega arith)
    by_check (Err why) e h = (why, e, cc)

pub read-sound : (b : List ℕ) (s : Sheet) → read b ≡ sound s → channel.Sound s
read-sound b s h =
    let (e, same) = read_checked b s h in
    rw same (checked_sound b e)
