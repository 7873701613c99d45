-- Sheet A at four lengths makes a loosened and a lengthened pair.
-- Assumes nothing.
use Rattle.std.proofs.Common.{◌≡◌, ℕ, zero, suc, ◌≤◌, true, false, sym, refl, ◌∙◌, true≢false, arith}
use Rattle.channel.specs.Assignment.{allows, fits}
use Rattle.kind.specs.Kinds.{kind_of}
use Rattle.channel.specs.Density.{crosses, nets_of, column_density, density}
use Rattle.channel.specs.Word.{word, columns_of, words}
use Rattle.channel.specs.Best.{best_of, best}
use Rattle.channel.specs.Pairs.{Looser, BothFree}
use Rattle.channel.proofs.Sets.{allows-below}
use Rattle.little.specs.Little.{little}
use Rattle.trailer.specs.Trailer.{trailer_of, has_mark, mark_of}
use Rattle.format.specs.Format.{terminal_at, terminals_from}
use Rattle.format.specs.Parts.{bytes_of, terminals_in}
use Rattle.form.specs.Form.{laid_out, trailer_check, form_of}
use Rattle.encode.specs.Encode.{sheet_bytes}
use Rattle.soundness.specs.Check.{terminal_check, check_of}
use Rattle.soundness.specs.Read.{sheet_of, read}
use Rattle.search.specs.Answer.{answer_in, searched_of, columns_after}
use Rattle.starred.specs.Sheets.{first, later, full}
use Rattle.starred.specs.Table.{Paired}

-- what the set {1, 2} allows, {1, 2, 3} does
wider : (c : ℕ) → allows (full 2) c ≡ true → allows (full 3) c ≡ true
wider zero h = h
wider (suc zero) h = refl
wider (suc (suc zero)) h = refl
wider (suc (suc (suc c))) h = absurd (true≢false (sym h ∙ allows-below (full 2) 2 (suc (suc (suc c))) (omega arith) (omega arith)))

-- full sets allow every column of their channel
full_4 : (c : ℕ) → 1 ≤ c → c ≤ 4 → allows (full 4) c ≡ true
full_4 zero h g = absurd (omega arith)
full_4 (suc zero) h g = refl
full_4 (suc (suc zero)) h g = refl
full_4 (suc (suc (suc zero))) h g = refl
full_4 (suc (suc (suc (suc zero)))) h g = refl
full_4 (suc (suc (suc (suc (suc c))))) h g = absurd (omega arith)

full_5 : (c : ℕ) → 1 ≤ c → c ≤ 5 → allows (full 5) c ≡ true
full_5 zero h g = absurd (omega arith)
full_5 (suc zero) h g = refl
full_5 (suc (suc zero)) h g = refl
full_5 (suc (suc (suc zero))) h g = refl
full_5 (suc (suc (suc (suc zero)))) h g = refl
full_5 (suc (suc (suc (suc (suc zero))))) h g = refl
full_5 (suc (suc (suc (suc (suc (suc c)))))) h g = absurd (omega arith)

-- the terminals of sheet A with full sets
first_looser : (n : ℕ) → Looser true (first n (full 2)) (first n (full 3))
first_looser n = record { net = refl; allowed = wider; distances = tt }

later_looser : (n : ℕ) → Looser false (later n 1 255 (full 2)) (later n 1 255 (full 3))
later_looser n = record { net = refl; allowed = wider; distances = (omega arith, omega arith) }

first_free : (n : ℕ) → BothFree 4 5 true (first n (full 4)) (first n (full 5))
first_free n =
    record { net = refl; first = record { allowed = full_4; distances = tt }; second = record { allowed = full_5; distances = tt } }

later_free : (n : ℕ) → BothFree 4 5 false (later n 1 255 (full 4)) (later n 1 255 (full 5))
later_free n =
    record {
      net = refl;
      first = record { allowed = full_4; distances = (refl, refl) };
      second = record { allowed = full_5; distances = (refl, refl) };
    }

pub paired : Paired
unfolding fits kind_of crosses nets_of column_density density word columns_of words best_of best little terminal_at terminals_from trailer_of
    sheet_bytes has_mark mark_of bytes_of terminals_in laid_out trailer_check form_of terminal_check check_of sheet_of read answer_in searched_of columns_after
paired =
    record {
      sheet_a_2_reads = refl;
      sheet_a_3_reads = refl;
      loosened =
          record {
            mark = refl;
            columns = omega arith;
            top = (first_looser 1, (later_looser 2, tt));
            bottom = (first_looser 2, (later_looser 1, tt));
          };
      sheet_a_4_reads = refl;
      sheet_a_5_reads = refl;
      lengthened =
          record {
            mark = refl;
            columns = omega arith;
            room = omega arith;
            top = (first_free 1, (later_free 2, tt));
            bottom = (first_free 2, (later_free 1, tt));
          };
      sheet_a_5 = (refl, refl, refl);
    }
