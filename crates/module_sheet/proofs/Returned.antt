-- What a call on two sides of modules that keeps its promise returned and left.
-- Assumes nothing.
use Rattle.std.proofs.Common.{◌≡◌, ℕ, ◌<◌, ◌≤◌, Bool, true, false, ◌&&◌, leb, List, length, drop, Ok, Err, Result, refl, ap, ◌∙◌, take_at, drop_at, le-leb, leb-true}
use Rattle.std.proofs.Math.Bool.{and-eq-true_iff}
use Rattle.std.proofs.lemmas.Bool.{lt-leb}
use Rattle.refusals.specs.declared.Refusal.TheVariants.{Length, Count, Net}
use Rattle.encode.specs.Encode.{sheet_bytes, sheet_size}
use Rattle.soundness.proofs.Laws.{read-sound}
use Rattle.modules.specs.Modules.{Module, pin_count, every, is_valid, are_valid, is_within, is_named, module_sheet}
use Rattle.modules.specs.Bytes.{modules_in}
use Rattle.modules.proofs.Sound.{SoundModules, sound-modules}
use Rattle.placements.proofs.Matches.{sheet_matches}
use Rattle.made.specs.declared.ModuleRefusal.{ModuleRefusal}
use Rattle.made.specs.declared.ModuleRefusal.TheVariants.{Sheet as Unsound, Module as Invalid, Edge, SheetBuffer}
use Rattle.made.specs.Numbers.{number_of, length_of}
use Rattle.module_sheet.specs.Answer.{unless, answer_of, answer_in, made_of, with_sheet, sheet_after, Makes}
use Rattle.module_sheet.specs.Returned.{Refuses, InChannel, AllValid, Within, Counts, Named, Gives, Returned}
use Rattle.module_sheet.proofs.Making.{length_made}

-- a test of both sides that fails, and the answer where a test fails and where it holds
not-both : (a b : Bool) → ((a ≡ true) × (b ≡ true) → ⊥) → (a && b) ≡ false
not-both true true h = absurd (h (refl, refl))
not-both true false h = refl
not-both false b h = refl

fails : (t : Bool) (why next : Result ℕ ModuleRefusal) → t ≡ false → unless t why next ≡ why
fails t why next e = rw e

holds : (t : Bool) (why next : Result ℕ ModuleRefusal) → t ≡ true → unless t why next ≡ next
holds t why next e = rw e

module _ (l : ℕ) (top bottom sheet sheet' : List ℕ) (r : Result ℕ ModuleRefusal) (makes : Makes l top bottom sheet sheet' r) where
  abbrev tops : List Module
  tops = modules_in top

  abbrev bottoms : List Module
  bottoms = modules_in bottom

  abbrev size : ℕ
  size = sheet_size (pin_count tops) (pin_count bottoms)

  -- the tests, and the answers in their order from each of them on
  abbrev valid : Bool
  valid = are_valid tops && are_valid bottoms

  abbrev within : Bool
  within = every (is_within l) tops && every (is_within l) bottoms

  abbrev few : Bool
  few = leb (pin_count tops) 64 && leb (pin_count bottoms) 64

  abbrev named : Bool
  named = every is_named tops && every is_named bottoms

  abbrev from9 : Result ℕ ModuleRefusal
  from9 = unless (leb size (length sheet)) (Err SheetBuffer) (Ok size)

  abbrev from6 : Result ℕ ModuleRefusal
  from6 = unless named (Err (Unsound Net)) from9

  abbrev from4 : Result ℕ ModuleRefusal
  from4 = unless few (Err (Unsound Count)) from6

  abbrev from17 : Result ℕ ModuleRefusal
  from17 = unless within (Err Edge) from4

  abbrev from16 : Result ℕ ModuleRefusal
  from16 = unless valid (Err Invalid) from17

  all : made_of l top bottom (length sheet) ≡ unless (leb 1 l && leb l 64) (Err (Unsound Length)) from16
  unfolding answer_in answer_of
  all = refl

  -- an answer that is no sheet
  refuses :
      (a : Result ℕ ModuleRefusal) → made_of l top bottom (length sheet) ≡ a → length_of a ≡ 0 → ((bytes old : List ℕ) → with_sheet a bytes old ≡ old)
      → Refuses (number_of a) (number_of r) (length_of r) sheet sheet'
  unfolding sheet_after
  refuses a e none kept =
      record {
        returned = ap number_of (makes.answer ∙ e);
        length = ap length_of (makes.answer ∙ e) ∙ none;
        bytes = makes.bytes ∙ rw e (kept _ _);
      }

  channel : (InChannel l → ⊥) → Refuses 3 (number_of r) (length_of r) sheet sheet'
  channel h =
      let e = not-both (leb 1 l) (leb l 64) (λ k. h (leb-true 1 l k.0, leb-true l 64 k.1)) in
      refuses (Err (Unsound Length)) (all ∙ fails (leb 1 l && leb l 64) _ from16 e) refl (λ b o. refl)

  module _ (inside : InChannel l) where
    to16 : made_of l top bottom (length sheet) ≡ from16
    to16 = all ∙ holds (leb 1 l && leb l 64) (Err (Unsound Length)) from16 (rw (le-leb 1 l inside.0, le-leb l 64 inside.1))

    modules : (AllValid tops bottoms → ⊥) → Refuses 16 (number_of r) (length_of r) sheet sheet'
    modules h = refuses (Err Invalid) (to16 ∙ fails valid (Err Invalid) from17 (not-both _ _ h)) refl (λ b o. refl)

    module _ (all_valid : AllValid tops bottoms) where
      to17 : made_of l top bottom (length sheet) ≡ from17
      to17 = to16 ∙ holds valid (Err Invalid) from17 (rw (all_valid.0, all_valid.1))

      edge : (Within l tops bottoms → ⊥) → Refuses 17 (number_of r) (length_of r) sheet sheet'
      edge h = refuses (Err Edge) (to17 ∙ fails within (Err Edge) from4 (not-both _ _ h)) refl (λ b o. refl)

      module _ (edges : Within l tops bottoms) where
        to4 : made_of l top bottom (length sheet) ≡ from4
        to4 = to17 ∙ holds within (Err Edge) from4 (rw (edges.0, edges.1))

        count : (Counts tops bottoms → ⊥) → Refuses 4 (number_of r) (length_of r) sheet sheet'
        count h =
            let e = not-both (leb (pin_count tops) 64) (leb (pin_count bottoms) 64) (λ k. h (leb-true _ _ k.0, leb-true _ _ k.1)) in
            refuses (Err (Unsound Count)) (to4 ∙ fails few _ from6 e) refl (λ b o. refl)

        module _ (counts : Counts tops bottoms) where
          to6 : made_of l top bottom (length sheet) ≡ from6
          to6 = to4 ∙ holds few _ from6 (rw (le-leb (pin_count tops) 64 counts.0, le-leb (pin_count bottoms) 64 counts.1))

          net : (Named tops bottoms → ⊥) → Refuses 6 (number_of r) (length_of r) sheet sheet'
          net h = refuses (Err (Unsound Net)) (to6 ∙ fails named _ from9 (not-both _ _ h)) refl (λ b o. refl)

          module _ (names : Named tops bottoms) where
            to9 : made_of l top bottom (length sheet) ≡ from9
            to9 = to6 ∙ holds named (Err (Unsound Net)) from9 (rw (names.0, names.1))

            short : length sheet < size → Refuses 9 (number_of r) (length_of r) sheet sheet'
            short h =
                refuses (Err SheetBuffer) (to9 ∙ fails (leb size (length sheet)) (Err SheetBuffer) (Ok size) (lt-leb _ _ h)) refl (λ b o. refl)

            gives : size ≤ length sheet → Gives l tops bottoms (number_of r) (length_of r) sheet sheet'
            unfolding sheet_after
            gives h =
                let sheet_of = sheet_bytes (module_sheet l tops bottoms) in
                let e = to9 ∙ holds (leb size (length sheet)) (Err SheetBuffer) (Ok size) (le-leb _ _ h) in
                let a = makes.answer ∙ e in
                let after = makes.bytes ∙ ap (λ (m : Result ℕ ModuleRefusal). with_sheet m sheet_of sheet) e in
                let long = length_made l tops bottoms in
                let written = ap length_of a in
                let reads = makes.reads size a in
                record {
                  returned = ap number_of a;
                  length = written;
                  bytes = rw (written, after) (take_at sheet_of _ _ long);
                  behind = rw (written, after) (drop_at sheet_of _ _ long ∙ ap (λ (n : ℕ). drop n sheet) long);
                  whole = read-sound _ _ reads;
                  reads = rw written reads;
                  matches =
                      sheet_matches l tops bottoms inside.1 (side tops all_valid.0 edges.0)
                      (side bottoms all_valid.1 edges.1);
                }
              where
                side : (ms : List Module) → are_valid ms ≡ true → every (is_within l) ms ≡ true → SoundModules l ms
                side ms s e = sound-modules l ms ((and-eq-true_iff (every is_valid ms) (leb (length ms) 16)).0 s).0 e

  pub one_making : Returned l top bottom sheet sheet' (number_of r) (length_of r)
  one_making = record { channel = channel; modules = modules; edge = edge; count = count; net = net; short = short; gives = gives }
