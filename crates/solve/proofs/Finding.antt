-- Why what is read of two sections and clipped is what the passes ask for, and what they come to is the best assignment of the sections' sheet.
-- Assumes nothing.
use Rattle.std.proofs.Common.{ℕ, zero, suc, ◌+◌, ◌*◌, ◌^◌, ◌≤◌, ◌<◌, ◌≡◌, refl, sym, ◌∙◌, ap, subst, List, Bool, true, false, ◌&&◌, arith, length, drop, ltb, ltb-true, ltb-false, Some, None}
use Rattle.std.proofs.Math.ListN.{get_or-eq_default}
use Rattle.std.proofs.lemmas.Bool.{lt-leb}
use Rattle.std.proofs.Math.ListN.{length-map}
use Rattle.channel.specs.Sheet.{Terminal, no_terminal, Sheet}
use Rattle.channel.specs.Assignment.{allows}
use Rattle.channel.specs.Density.{most_density}
use Rattle.channel.specs.Best.{Found, best}
use Rattle.channel.specs.Best.Found.{none}
use Rattle.channel.specs.Word.Letter.{top, bottom, both}
use Rattle.arrays.specs.Rules.{pins, allowed_at}
use Rattle.bits.specs.Bits.{bit_of}
use Rattle.bits.proofs.Laws.{bit_zero}
use Rattle.sheet.specs.declared.Shape.{Shape}
use Rattle.sheet.specs.declared.Sections.{Sections}
use Rattle.sheet.specs.Sections.{sheet_held}
use Rattle.format.specs.Parts.{terminals_in}
use Rattle.load.specs.Cuts.{Cell, LoadsRead}
use Rattle.nets.specs.Nets.{nets_in}
use Rattle.load.proofs.LoadOf.{load_of_lem, cell-top, cell-bottom, cell-both}
use Rattle.least_column.specs.LeastColumn.{allowed_to}
use Rattle.least.specs.Table.{fits_by_order}
use Rattle.rules.specs.Sides.{SideRead}
use Rattle.rules.proofs.Reading.{rules_kept}
use Rattle.clip.specs.Clip.{Clipped, side_open}
use Rattle.clipped.specs.Clipped.{clipped_terminals, clipped_sheet, ClippedSheet}
use Rattle.clipped.proofs.Terminals.{allows_word, length-with_words, with_words_at}
use Rattle.clipped.proofs.Sheets.{sheet_clipped}
use Rattle.agreement.specs.Ready.{SheetLoads, Numbered}
use Rattle.solve.specs.Buffers.{with_columns}
use Rattle.solve.specs.Solved.{AsksSolve, outcome_of, Worked}
use Rattle.solve.specs.Placed.{Placeable, Given, OpenRules, AsksPlace, BestPlaced, table_cells}
use Rattle.solve.proofs.Solving.{fits_most}

-- the loads of all cuts of two sections are those of their sheet
pub loads_sheet :
    (m : Sections) (old new : List ℕ) → LoadsRead m.mark (nets_in m.top.now) (nets_in m.bottom.now) old new → SheetLoads (sheet_held m) new
loads_sheet m old new a =
    record {
      top = λ i j h hi hj. cell-top (cut i j hi hj) h ∙ sym (load_of_lem (sheet_held m) top i j);
      bottom = λ i j hi h hj. cell-bottom (cut i j hi hj) h ∙ sym (load_of_lem (sheet_held m) bottom i j);
      both = λ i j h hi g hj. cell-both (cut i j hi hj) h g ∙ sym (load_of_lem (sheet_held m) both i j);
    }
  where
    cut : (i j : ℕ) → i ≤ length (terminals_in m.top.now) → j ≤ length (terminals_in m.bottom.now)
        → Cell m.mark (nets_in m.top.now) (nets_in m.bottom.now) new i j
    cut i j hi hj = a.cell i j (rw length-map hi) (rw length-map hj)

-- no set of a clipped side has a column left of its pin's number
clipped_numbered : (side : ℕ) (rules : List ℕ) (ts : List Terminal) → Numbered (clipped_terminals side rules ts)
unfolding bit_of
clipped_numbered side rules ts zero c h l = absurd (omega arith)
clipped_numbered side rules ts (suc k) c h l = by-test (ltb k (length ts)) refl
  where
    left : (c : ℕ) → c < suc k → allows (allowed_at rules side (suc (0 + k)) * 2 ^ (0 + k)) c ≡ false
    left zero l = refl
    left (suc c) l = allows_word (allowed_at rules side (suc (0 + k))) (0 + k) c ∙ rw (lt-leb (0 + k) c (omega arith))

    none_left : (c : ℕ) → allows 0 c ≡ false
    none_left zero = refl
    none_left (suc c) = bit_zero c

    by-test : (t : Bool) → ltb k (length ts) ≡ t → allowed_to (clipped_terminals side rules ts) (suc k) c ≡ false
    by-test true e = rw (with_words_at side rules 0 ts k (ltb-true k (length ts) e)) (left c l)
    by-test false e =
        let past : length (clipped_terminals side rules ts) ≤ k = omega (arith, ltb-false k (length ts) e, length-with_words side rules 0 ts) in
        rw (get_or-eq_default (clipped_terminals side rules ts) no_terminal past) (none_left c)

-- what is asked of two sections
module _ (m : Sections) (c w : ℕ) (asked : AsksSolve m c w) where
  abbrev s : Sheet
  s = sheet_held m

  top_count : m.shape.top ≡ length s.top
  top_count = ap (λ (k : Shape). k.top) asked.numbers

  bottom_count : m.shape.bottom ≡ length s.bottom
  bottom_count = ap (λ (k : Shape). k.bottom) asked.numbers

  cell_count : m.shape.cells ≡ table_cells m.shape.columns m.shape.top m.shape.bottom
  cell_count = ap (λ (k : Shape). k.cells) asked.numbers ∙ rw (← top_count, ← bottom_count)

  pub counts : (m.shape.top ≤ pins) × (m.shape.bottom ≤ pins) × (m.shape.columns ≤ 64)
  counts =
      (omega (arith, top_count, asked.sound.counts.0), omega (arith, bottom_count, asked.sound.counts.1), asked.sound.columns.1)

  pub place_asked : AsksPlace m.shape.columns m.shape.top m.shape.bottom c w
  place_asked =
      record {
        room = omega (arith, ap (λ (k : Shape). k.pins) asked.numbers, top_count, bottom_count, asked.pins);
        cells = omega (arith, cell_count, asked.cells);
      }

  -- the rules, read and clipped, and whether both sides are open
  module _ (start read_one read_both mid rules : List ℕ) (r : SideRead 0 (terminals_in m.top.now) start read_one)
      (b : SideRead 1 (terminals_in m.bottom.now) read_one read_both) (x : Clipped 0 m.shape.top read_both mid)
      (y : Clipped 1 m.shape.bottom mid rules)
    where
      abbrev is_open : Bool
      is_open = side_open 0 m.shape.top mid && side_open 1 m.shape.bottom rules

      clipped_with :
          (p q : ℕ) → p ≡ length s.top → q ≡ length s.bottom → Clipped 0 p read_both mid → Clipped 1 q mid rules
          → ClippedSheet s (clipped_sheet rules s) rules (side_open 0 p mid && side_open 1 q rules)
      clipped_with p q e f x y =
          rw (e, f)
          (sheet_clipped s asked.sound read_both mid rules
          (rules_kept 0 1 s.top s.bottom read_one read_both (λ k. omega arith) asked.sound.counts.0 r.rules b)
          b.rules (rw e at x) (rw f at y))

      clipped : ClippedSheet s (clipped_sheet rules s) rules is_open
      clipped = clipped_with m.shape.top m.shape.bottom top_count bottom_count x y

      -- where one is not, there is no assignment
      pub closed_worked : is_open ≡ false → (columns work : List ℕ) → Worked m columns columns work work None
      closed_worked e columns work =
          let nothing : best s ≡ none = clipped.closed e in
          record { outcome = rw nothing; written = rw nothing; kept = refl; behind = refl }

      pub opened : is_open ≡ true → OpenRules m rules
      opened e = record { clipped = subst (λ (t : Bool). ClippedSheet s (clipped_sheet rules s) rules t) e clipped }

  -- where both are, these are the rules, and with the loads read, the loads of a sheet with an assignment, the clipped one
  module _ (rules : List ℕ) (is : OpenRules m rules) (old loads : List ℕ) (l : LoadsRead m.mark (nets_in m.top.now) (nets_in m.bottom.now) old loads) where
    loads_clipped : SheetLoads (clipped_sheet rules s) loads
    loads_clipped =
        let here : SheetLoads s loads = loads_sheet m old loads l in
        record {
          top = λ i j a b c. here.top i j a (omega (arith, b, is.clipped.tops)) (omega (arith, c, is.clipped.bottoms)) ∙ is.clipped.loads top i j;
          bottom =
              λ i j a b c. here.bottom i j (omega (arith, a, is.clipped.tops)) b (omega (arith, c, is.clipped.bottoms))
              ∙ is.clipped.loads bottom i j;
          both =
              λ i j a b c d. here.both i j a (omega (arith, b, is.clipped.tops)) c (omega (arith, d, is.clipped.bottoms))
              ∙ is.clipped.loads both i j;
        }

    placeable : Placeable rules loads m.shape.columns m.shape.top m.shape.bottom (clipped_sheet rules s)
    placeable =
        record {
          ready =
              record {
                sound = is.clipped.sound;
                top = is.clipped.top;
                bottom = is.clipped.bottom;
                cuts = loads_clipped;
                top_numbered = clipped_numbered 0 rules s.top;
                bottom_numbered = clipped_numbered 1 rules s.bottom;
              };
          columns = refl;
          tops = top_count ∙ sym is.clipped.tops;
          bottoms = bottom_count ∙ sym is.clipped.bottoms;
          feasible_most = is.clipped.opened refl;
        }

    pub given : Given rules loads m.shape.columns m.shape.top m.shape.bottom
    given = record { sheet = clipped_sheet rules s; is = placeable }

    pub enough : fits_by_order rules loads m.shape.columns m.shape.top m.shape.bottom most_density ≡ true
    enough = fits_most rules loads m.shape.columns m.shape.top m.shape.bottom (clipped_sheet rules s) placeable

    pub placed_worked :
        (columns columns' work work' : List ℕ) (d : ℕ)
        → BestPlaced rules loads m.shape.columns m.shape.top m.shape.bottom columns columns' work work' d
        → Worked m columns columns' work work' (Some d)
    placed_worked columns columns' work work' d placed =
        let (outcome, written) = placed.best_of (clipped_sheet rules s) placeable in
        record {
          outcome = outcome ∙ ap outcome_of (sym is.clipped.same);
          written = written ∙ ap (λ (f : Found). with_columns f columns) (sym is.clipped.same);
          kept = placed.kept;
          behind = subst (λ (k : ℕ). drop k work' ≡ drop k work) (sym cell_count) placed.behind;
        }
