-- A refusal leaves the sheet buffer, and a sheet that was written is read back.
-- Assumes nothing.
use Rattle.std.proofs.Common.{◌≡◌, ℕ, ◌<◌, ◌≤◌, List, ◌++◌, length, get_or, take, drop, Ok, Err, Result, sym, refl, ap, ◌∙◌, ap₂, zero-add, arith, take_at, le-leb}
use Rattle.std.proofs.Math.Seq.{sets-eq}
use Rattle.channel.specs.Sheet.{Sheet}
use Rattle.text.specs.Writing.{Wrote}
use Rattle.encode.specs.Encode.{sheet_bytes, sheet_size}
use Rattle.encode.proofs.Lengths.{length-sheet}
use Rattle.encode.proofs.Encoded.{read_encoded}
use Rattle.soundness.specs.Read.{read}
use Rattle.soundness.specs.Read.Read.{sound}
use Rattle.modules.specs.Modules.{Module, pin_count, module_sheet}
use Rattle.modules.specs.Bytes.{modules_in}
use Rattle.modules.proofs.Nets.{side_fits_lem}
use Rattle.modules.proofs.Sound.{sound-modules}
use Rattle.modules.proofs.Terminals.{length-terminals}
use Rattle.module_check.specs.declared.Tests.{Tests}
use Rattle.module_check.specs.Tests.{tests_of, combined}
use Rattle.made.specs.declared.ModuleRefusal.{ModuleRefusal}
use Rattle.made.specs.declared.ModuleRefusal.TheVariants.{Sheet as Unsound, Module as Invalid, Edge, SheetBuffer}
use Rattle.made.specs.Numbers.{module_number, number_of, length_of}
use Rattle.refusals.proofs.Refused.{number_some}
use Rattle.module_sheet.specs.Answer.{answer_of, answer_in, made_of, with_sheet, sheet_after, Makes}
use Rattle.module_sheet.proofs.Accepted.{Accepted}
use Rattle.module_sheet.proofs.Sound.{modules-sound, modules_encodable}

-- the answer, from the tests of the two sides
pub made_of_lem :
    (l : ℕ) (top bottom : List ℕ) (room : ℕ) (t u v : Tests) (r : Result ℕ ModuleRefusal) → 1 ≤ l → l ≤ 64 → t ≡ tests_of l (modules_in top)
    → u ≡ tests_of l (modules_in bottom) → v ≡ combined t u → r ≡ answer_of v t.pins u.pins room → r ≡ made_of l top bottom room
unfolding answer_in
made_of_lem l top bottom room t u v r low high et eu ev er = er ∙ rw (ev, et, eu, le-leb 1 l low, le-leb l 64 high)

-- no refusal has the number 0
pub module_number_some : (why : ModuleRefusal) → module_number why ≡ 0 → ⊥
module_number_some (Unsound why) e = number_some why e
module_number_some Invalid e = omega arith
module_number_some Edge e = omega arith
module_number_some SheetBuffer e = omega arith

-- a refusal
kept_sheet : (r : Result ℕ ModuleRefusal) (bytes old : List ℕ) → (number_of r ≡ 0 → ⊥) → with_sheet r bytes old ≡ old
kept_sheet (Ok n) bytes old h = absurd (h refl)
kept_sheet (Err why) bytes old h = refl

pub makes_none :
    (l : ℕ) (top bottom sheet : List ℕ) (r : Result ℕ ModuleRefusal) → r ≡ made_of l top bottom (length sheet) → (number_of r ≡ 0 → ⊥)
    → Makes l top bottom sheet sheet r
unfolding sheet_after
makes_none l top bottom sheet r e h =
    record {
      answer = e;
      bytes = sym (ap (λ (m : Result ℕ ModuleRefusal). with_sheet m written sheet) (sym e) ∙ kept_sheet r written sheet h);
      reads = λ n w. absurd (h (ap number_of w));
    }
  where
    written : List ℕ
    written = sheet_bytes (module_sheet l (modules_in top) (modules_in bottom))

-- the sheet of two sides is as long as the rule says
pub length_made :
    (l : ℕ) (top bottom : List Module) → length (sheet_bytes (module_sheet l top bottom)) ≡ sheet_size (pin_count top) (pin_count bottom)
length_made l top bottom =
    length-sheet (module_sheet l top bottom)
    ∙ ap₂ (λ (p q : ℕ). sheet_size p q) (length-terminals top) (length-terminals bottom)

-- a sheet: the bytes of both sides are below 256, so the nets fit two bytes each
module _
    (l : ℕ) (top bottom sheet sheet' : List ℕ) (end : ℕ) (r : Result ℕ ModuleRefusal) (below : (i : ℕ) → get_or top i 0 < 256)
    (below' : (i : ℕ) → get_or bottom i 0 < 256) (e : r ≡ made_of l top bottom (length sheet))
    (ok : Accepted l (modules_in top) (modules_in bottom) (length sheet))
    (w : Wrote sheet 0 (sheet_bytes (module_sheet l (modules_in top) (modules_in bottom))) sheet' end) where
  abbrev s : Sheet
  s = module_sheet l (modules_in top) (modules_in bottom)

  size : length (sheet_bytes s) ≡ sheet_size (pin_count (modules_in top)) (pin_count (modules_in bottom))
  size = length_made l (modules_in top) (modules_in bottom)

  after : sheet' ≡ sheet_bytes s ++ drop (length (sheet_bytes s)) sheet
  after =
      w.bytes
      ∙ sets-eq (sheet_bytes s) sheet 0 (omega (arith, size, ok.size))
      ∙ ap (λ (n : ℕ). sheet_bytes s ++ drop n sheet) (zero-add (length (sheet_bytes s)))

  reads_sheet : read (sheet_bytes s) ≡ sound s
  reads_sheet =
      let st = sound-modules l (modules_in top) ok.valid.0 ok.within.0 in
      let sb = sound-modules l (modules_in bottom) ok.valid.1 ok.within.1 in
      let ft = side_fits_lem top below in
      let fb = side_fits_lem bottom below' in
      read_encoded s
      (modules-sound l (modules_in top) (modules_in bottom) ok.columns ok.counts st sb ok.named.0 ok.named.1 ft fb)
      (modules_encodable l (modules_in top) (modules_in bottom) ok.columns ok.counts st sb ok.named.0 ok.named.1 ft fb)

  reads : (n : ℕ) → r ≡ Ok n → read (take n sheet') ≡ sound s
  reads n h =
      let long : length (sheet_bytes s) ≡ n = size ∙ sym (ap length_of (sym h ∙ e ∙ ok.answer)) in
      rw after (ap read (take_at (sheet_bytes s) _ n long) ∙ reads_sheet)

  pub makes_sheet : Makes l top bottom sheet sheet' r
  unfolding sheet_after
  makes_sheet =
      record {
        answer = e;
        bytes = after ∙ ap (λ (m : Result ℕ ModuleRefusal). with_sheet m (sheet_bytes s) sheet) (sym ok.answer);
        reads = reads;
      }
