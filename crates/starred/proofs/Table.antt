-- The starred results of document 01 hold: each is computed from the definitions.
-- Assumes nothing.
use Rattle.std.proofs.Common.{refl}
use Rattle.channel.specs.Assignment.{fits, top_columns, bottom_columns, is_assignment}
use Rattle.channel.specs.Distance.{amount}
use Rattle.kind.specs.Kinds.{kind_of}
use Rattle.channel.specs.Density.{crosses, nets_of, column_density, density}
use Rattle.channel.specs.Word.{word, columns_of, words}
use Rattle.channel.specs.Best.{best_of, best}
use Rattle.little.specs.Little.{little}
use Rattle.trailer.specs.Trailer.{trailer_of, has_mark, mark_of}
use Rattle.format.specs.Format.{terminal_at, terminals_from}
use Rattle.format.specs.Parts.{bytes_of, terminals_in}
use Rattle.form.specs.Form.{laid_out, trailer_check, form_of}
use Rattle.encode.specs.Encode.{sheet_bytes}
use Rattle.soundness.specs.Check.{terminal_check, check_of}
use Rattle.soundness.specs.Read.{sheet_of, read}
use Rattle.sheet.specs.Parts.{shape_of}
use Rattle.sheet.specs.Parts.{layout_of, opened_of}
use Rattle.list.specs.Answer.{all_allowed, first_amount, columns_listed, sheet_listed, listed_of}
use Rattle.measure.specs.Answer.{measured_of}
use Rattle.search.specs.Answer.{answer_in, searched_of, columns_after}
use Rattle.starred.specs.Table.{Starred}
use Rattle.starred.specs.Counted.{Counted}

pub starred : Starred
unfolding fits top_columns bottom_columns is_assignment kind_of crosses nets_of column_density density word columns_of words best_of best
    little terminal_at terminals_from trailer_of has_mark mark_of bytes_of terminals_in laid_out trailer_check form_of terminal_check check_of
    sheet_of read shape_of sheet_bytes
    layout_of opened_of amount all_allowed first_amount columns_listed sheet_listed listed_of measured_of answer_in searched_of columns_after
starred =
    record {
      sheet_a_length = refl;
      sheet_a_trailer = refl;
      sheet_a_3 = (refl, refl, refl);
      sheet_a_word = refl;
      rival_word = refl;
      rival_density = (refl, refl);
      sheet_a_2 = (refl, refl, refl);
      sheet_a_4 = (refl, refl, refl);
      one_and_one = (refl, refl, refl);
      no_terminals_lem = (refl, refl, refl);
      three_cells = (refl, refl, refl);
      cells_needed_lem = refl;
      no_room = (refl, refl, refl);
      empty_set_lem = (refl, refl, refl);
      range_2 = (refl, refl, refl);
      range_3 = (refl, refl, refl);
      three_pins_lem = (refl, refl, refl);
      measured_2 = (refl, refl, refl);
      measured_1 = (refl, refl, refl);
      measured_14 = (refl, refl, refl);
      measured_13 = (refl, refl, refl);
    }

pub counted : Counted
unfolding fits top_columns bottom_columns is_assignment kind_of crosses nets_of column_density density word columns_of words best_of best
    little terminal_at terminals_from trailer_of has_mark mark_of bytes_of terminals_in laid_out trailer_check form_of terminal_check check_of
    sheet_of read shape_of sheet_bytes
    layout_of opened_of amount all_allowed first_amount columns_listed sheet_listed listed_of measured_of answer_in searched_of columns_after
counted =
    record {
      sheet_a_trailer = refl;
      sheet_a_3 = (refl, refl, refl);
      sheet_a_word = refl;
      best_of_CP = (refl, refl);
      sheet_a_2 = (refl, refl, refl);
      sheet_a_4 = (refl, refl, refl);
      one_and_one = (refl, refl, refl);
      three_pins = (refl, refl, refl);
      measured_straight = (refl, refl, refl);
      measured_2 = (refl, refl, refl);
    }
