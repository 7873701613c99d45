-- The starred results of document 01, "Sheets with known results", as one statement about what a search and a measurement answer and
-- leave. What each line quotes is the document's.
-- Assumes nothing.
use Rattle.std.specs.Prelude.{ℕ, ◌≡◌, List, [], ◌∷◌, map, true, length, drop, replicate, ℤ, pos, neg_ℤ}
use Rattle.channel.specs.Assignment.{is_assignment}
use Rattle.channel.specs.Density.{density}
use Rattle.channel.specs.Word.{rank, word}
use Rattle.channel.specs.Pairs.{Loosened, Lengthened}
use Rattle.soundness.specs.Read.{sheet_of, read}
use Rattle.soundness.specs.Read.Read.{sound}
use Rattle.sheet.specs.Parts.{shape_of}
use Rattle.measured.specs.Numbers as measured
use Rattle.measure.specs.Answer.{measured_of}
use Rattle.searched.specs.Numbers as searched
use Rattle.search.specs.Answer.{searched_of, columns_after}
use Rattle.starred.specs.Sheets.{sheet_a, straight, no_terminals, two_top, empty_set, three_pins}

-- a column buffer before a search: no byte of it is a column
abbrev pub unwritten : ℕ → List ℕ
unwritten n = replicate n 255

-- a search with so many column bytes and work cells: its number, its density, and its column buffer at exit
abbrev pub Searched : List ℕ → ℕ → ℕ → ℕ → ℕ → List ℕ → Type 0
Searched b bytes cells n d columns =
    (searched.number_of (searched_of b bytes cells) ≡ n)
    × (searched.density_of (searched_of b bytes cells) ≡ d)
    × (columns_after b cells (unwritten bytes) ≡ columns)

-- it gives density d and these columns
abbrev pub Gives : List ℕ → ℕ → ℕ → ℕ → List ℕ → Type 0
Gives b bytes cells d columns = Searched b bytes cells 0 d columns

-- it is refused with number n, which leaves the columns
abbrev pub Refuses : List ℕ → ℕ → ℕ → ℕ → Type 0
Refuses b bytes cells n = Searched b bytes cells n 0 (unwritten bytes)

-- a measurement: its number, 0 for no refusal, its density, and its amount
abbrev pub Measures : List ℕ → List ℕ → ℕ → ℕ → ℤ → Type 0
Measures b cs n d a =
    (measured.number_of (measured_of b cs) ≡ n)
    × (measured.density_of (measured_of b cs) ≡ d)
    × (measured.amount_of (measured_of b cs) ≡ a)

-- the word of a column list, by the numbers of its letters
abbrev pub ranks : List ℕ → List ℕ → List ℕ
ranks b cs = map rank (word (sheet_of b) cs)

-- a list is an assignment and has this density
abbrev pub Assigned : List ℕ → List ℕ → ℕ → Type 0
Assigned b cs d = (is_assignment (sheet_of b) cs ≡ true) × (density (sheet_of b) cs ≡ d)

-- each search has just the buffers that its sheet needs
pub record Starred : Type 0 where
  -- "Sixty bytes; its trailer is 00 00 02 00 18 00 02 00 03 00 43 50"
  pub sheet_a_length : length (sheet_a 3) ≡ 60
  pub sheet_a_trailer :
      drop 48 (sheet_a 3)
      ≡ 0x00 ∷ 0x00 ∷ 0x02 ∷ 0x00 ∷ 0x18 ∷ 0x00 ∷ 0x02 ∷ 0x00 ∷ 0x03 ∷ 0x00 ∷ 0x43 ∷ 0x50 ∷ []
  -- "A: density 1, top 2, 3, bottom 1, 2"
  pub sheet_a_3 : Gives (sheet_a 3) 4 144 1 (2 ∷ 3 ∷ 1 ∷ 2 ∷ [])
  -- "Word 1 3 2"
  pub sheet_a_word : ranks (sheet_a 3) (2 ∷ 3 ∷ 1 ∷ 2 ∷ []) ≡ 1 ∷ 3 ∷ 2 ∷ []
  -- "the rival 2 3 1 also has density 1"
  pub rival_word : ranks (sheet_a 3) (1 ∷ 2 ∷ 2 ∷ 3 ∷ []) ≡ 2 ∷ 3 ∷ 1 ∷ []
  pub rival_density : Assigned (sheet_a 3) (1 ∷ 2 ∷ 2 ∷ 3 ∷ []) 1
  -- "A with L=2, sets {1,2}: density 2, columns 1, 2, 1, 2"
  pub sheet_a_2 : Gives (sheet_a 2) 4 81 2 (1 ∷ 2 ∷ 1 ∷ 2 ∷ [])
  -- "A with L=4, full sets: density 1, columns 2, 3, 1, 2"
  pub sheet_a_4 : Gives (sheet_a 4) 4 225 1 (2 ∷ 3 ∷ 1 ∷ 2 ∷ [])
  -- "One top and one bottom pin, same net, L=1: density 0, columns 1, 1"
  pub one_and_one : Gives straight 2 16 0 (1 ∷ 1 ∷ [])
  -- "No terminals, L=1: density 0, four work cells needed"
  pub no_terminals_lem : Gives no_terminals 0 4 0 []
  pub three_cells : Refuses no_terminals 0 3 10
  pub cells_needed_lem : (shape_of no_terminals).cells ≡ 4
  -- "Two top pins, L=1, both {1}, range 1 to 255: 11"
  pub no_room : Refuses (two_top 1 0b1 0b1 1 255) 2 12 11
  -- "One pin with the empty set: 11"
  pub empty_set_lem : Refuses empty_set 1 32 11
  -- "Two top pins, L=4, {1} and {2,4}, range 2 to 2: 11"
  pub range_2 : Refuses (two_top 4 0b0001 0b1010 2 2) 2 75 11
  -- "range 3 to 3: columns 1, 4, density 0 if the nets differ"
  pub range_3 : Gives (two_top 4 0b0001 0b1010 3 3) 2 75 0 (1 ∷ 4 ∷ [])
  -- "Top nets 4, 4, bottom 4, L=2, full sets, range 1 to 255: density 1, columns 1, 2, 1"
  pub three_pins_lem : Gives three_pins 3 54 1 (1 ∷ 2 ∷ 1 ∷ [])
  -- "Measuring on A: 1, 2, 1, 2 gives 2; 1, 2, 2, 3 gives 1; 2, 2, 1, 3 gives 14; 2, 2, 0, 1 gives 13".
  -- 14 comes with the amount (document 02, T-01): columns 2 and 2 are 0 apart, which is 1 less than the least distance
  pub measured_2 : Measures (sheet_a 3) (1 ∷ 2 ∷ 1 ∷ 2 ∷ []) 0 2 (pos 0)
  pub measured_1 : Measures (sheet_a 3) (1 ∷ 2 ∷ 2 ∷ 3 ∷ []) 0 1 (pos 0)
  pub measured_14 : Measures (sheet_a 3) (2 ∷ 2 ∷ 1 ∷ 3 ∷ []) 14 0 (neg_ℤ (pos 1))
  pub measured_13 : Measures (sheet_a 3) (2 ∷ 2 ∷ 0 ∷ 1 ∷ []) 13 0 (pos 0)

-- Two of these sheets that demand 3 speaks of
pub record Paired : Type 0 where
  -- both read, and the second is the first loosened: its density, 1, is no higher than the first's, 2
  pub sheet_a_2_reads : read (sheet_a 2) ≡ sound (sheet_of (sheet_a 2))
  pub sheet_a_3_reads : read (sheet_a 3) ≡ sound (sheet_of (sheet_a 3))
  pub loosened : Loosened (sheet_of (sheet_a 2)) (sheet_of (sheet_a 3))
  -- both read, and the second is the first lengthened: both have density 1
  pub sheet_a_4_reads : read (sheet_a 4) ≡ sound (sheet_of (sheet_a 4))
  pub sheet_a_5_reads : read (sheet_a 5) ≡ sound (sheet_of (sheet_a 5))
  pub lengthened : Lengthened (sheet_of (sheet_a 4)) (sheet_of (sheet_a 5))
  pub sheet_a_5 : Gives (sheet_a 5) 4 324 1 (2 ∷ 3 ∷ 1 ∷ 2 ∷ [])
