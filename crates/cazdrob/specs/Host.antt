-- What the C functions return and leave behind, in document 01's numbers.
-- Assumes nothing.
use Rattle.std.specs.Prelude.{ℕ, ◌≡◌, ◌<◌, ◌↔◌, true, false, List, length, ℤ, Result}
use Rattle.channel.specs.Sheet.{names_above}
use Rattle.channel.specs.Assignment.{allows}
use Rattle.refusals.specs.Refusals as refusals
use Rattle.refusals.specs.Answers.{number_in}
use Rattle.measured.specs.Numbers as measured
use Rattle.measure.specs.Answer.{measured_of}
use Rattle.searched.specs.Numbers as searched
use Rattle.search.specs.Answer.{searched_of, columns_after, work_after}
use Rattle.left_edge.specs.declared.Span.{Span}
use Rattle.tracked.specs.declared.Counts.{Counts}
use Rattle.tracked.specs.declared.TrackRefusal.{TrackRefusal}
use Rattle.tracked.specs.Numbers as tracked
use Rattle.tracks.specs.Answer.{tracked_of, spans_after}
use Rattle.chained.specs.Numbers as chained
use Rattle.chains.specs.Answer.{chained_of}
use Rattle.made.specs.Numbers as made
use Rattle.refusals.specs.declared.Refusal.{Refusal}
use Rattle.refusals.specs.declared.Refusal.TheVariants.{Beyond}
use Rattle.module_sheet.specs.Answer.{made_of, sheet_after, ReadsBack}

-- the number of a sheet's refusal; 0 for a sound sheet
abbrev pub check_number : Result Unit Refusal → ℕ
check_number answer = number_in refusals.number_of answer

-- the number of the test behind 8, asked of one set; 0 where it names no column above the last
abbrev pub beyond_number : ℕ → ℕ → ℕ
beyond_number columns set = check_number (refusals.refuse (names_above columns set) Beyond)

-- "it says 8 exactly when the set names a column above L"
pub record SaysBeyond (columns set r : ℕ) : Type 0 where
  pub beyond : (r ≡ 8) ↔ ((c : ℕ) × (columns < c) × (allows set c ≡ true))
  pub within : (r ≡ 0) ↔ ((c : ℕ) → columns < c → allows set c ≡ false)

-- the promise of a measurement: its number, and the density and the amount that it leaves
pub record HostMeasures (bytes columns : List ℕ) (density' : ℕ) (amount' : ℤ) (r : ℕ) : Type 0 where
  pub number : r ≡ measured.number_of (measured_of bytes columns)
  pub density : density' ≡ measured.density_of (measured_of bytes columns)
  pub amount : amount' ≡ measured.amount_of (measured_of bytes columns)

-- the promise of a search: its number, the density it leaves, and both buffers at exit
pub record HostSearches (bytes buffer work buffer' work' : List ℕ) (density' r : ℕ) : Type 0 where
  pub number : r ≡ searched.number_of (searched_of bytes (length buffer) (length work))
  pub density : density' ≡ searched.density_of (searched_of bytes (length buffer) (length work))
  pub columns : buffer' ≡ columns_after bytes (length work) buffer
  pub cells : work' ≡ work_after bytes (length buffer) work

-- what is left of an answer about tracks in the caller's numbers
pub record HostNumbers (answer : Result Counts TrackRefusal) (nets' tracks' : ℕ) (amount' : ℤ) (r : ℕ) : Type 0 where
  pub number : r ≡ tracked.number_of answer
  pub nets : nets' ≡ tracked.count_of answer
  pub tracks : tracks' ≡ tracked.tracks_of answer
  pub amount : amount' ≡ tracked.amount_of answer

-- the promise about tracks: its number, the numbers it leaves, and the array of spans at exit
pub record HostTracks (bytes columns : List ℕ) (array array' : List Span) (nets' tracks' : ℕ) (amount' : ℤ) (r : ℕ) : Type 0 where
  pub numbers : HostNumbers (tracked_of bytes columns (length array)) nets' tracks' amount' r
  pub spans : array' ≡ spans_after bytes columns array

-- the promise about chains: its number, and the numbers it leaves
pub record HostChains (bytes columns : List ℕ) (chain' bound' net' : ℕ) (amount' : ℤ) (r : ℕ) : Type 0 where
  pub number : r ≡ chained.number_of (chained_of bytes columns)
  pub chain : chain' ≡ chained.nets_of (chained_of bytes columns)
  pub bound : bound' ≡ chained.bound_of (chained_of bytes columns)
  pub net : net' ≡ chained.net_of (chained_of bytes columns)
  pub amount : amount' ≡ chained.amount_of (chained_of bytes columns)

-- the promise about two sides of modules: its number, the length it leaves, the sheet buffer at exit, and that the sheet reads back
pub record HostMakes (l : ℕ) (top bottom sheet sheet' : List ℕ) (written' r : ℕ) : Type 0 where
  pub number : r ≡ made.number_of (made_of l top bottom (length sheet))
  pub written : written' ≡ made.length_of (made_of l top bottom (length sheet))
  pub bytes : sheet' ≡ sheet_after l top bottom sheet
  pub reads : ReadsBack l top bottom sheet' (made_of l top bottom (length sheet))
