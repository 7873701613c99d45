-- Words in 16-bit cells, lowest first.
-- Assumes nothing.
use Rattle.std.specs.Prelude.{ℕ, ◌+◌, ◌*◌, ◌/◌, ◌%◌, List, get_or, set}

-- the word in the four cells from `at` on
unfoldable pub word_at : List ℕ → ℕ → ℕ
word_at cells at =
    get_or cells at 0 + 65536 * (get_or cells (at + 1) 0 + 65536 * (get_or cells (at + 2) 0 + 65536 * get_or cells (at + 3) 0))

-- the cells with a word put in at `at`
unfoldable pub put_word : List ℕ → ℕ → ℕ → List ℕ
put_word cells at w =
    set (set (set (set cells at (w % 65536)) (at + 1) (w / 65536 % 65536)) (at + 2) (w / 65536 / 65536 % 65536)) (at + 3)
    (w / 65536 / 65536 / 65536 % 65536)
