-- Demands 1 and 2 of the C functions: what a call of `cazdrob_search`, `cazdrob_measure`, `cazdrob_tracks`, `cazdrob_chain` or
-- `cazdrob_modules` returned and left, and what a call of `cazdrob_beyond` or `cazdrob_distance` says.
-- Assumes nothing.
use Rattle.std.proofs.Common.{◌≡◌, ◌∙◌, ℕ, ◌^◌, Bool, true, false, List, length, ℤ, sym, refl, true≢false, leb-false, arith}
use Rattle.refusals.specs.Refusals.{refuse}
use Rattle.refusals.specs.declared.Refusal.TheVariants.{Beyond}
use Rattle.channel.specs.Sheet.{names_above}
use Rattle.channel.proofs.Sets.{allows-below, names_above_exactly}
use Rattle.channel.specs.Distance.{amount, Says}
use Rattle.channel.proofs.Distances.{amount_says}
use Rattle.search.specs.Answer.{searched_of, Searches}
use Rattle.search.specs.Returned.{Returned}
use Rattle.search.proofs.Returned.{one_search}
use Rattle.measure.specs.Returned as measure
use Rattle.measure.proofs.Returned.{one_measurement}
use Rattle.left_edge.specs.declared.Span.{Span}
use Rattle.tracks.specs.Returned as tracks
use Rattle.tracks.proofs.Returned.{one_routing}
use Rattle.chains.specs.Returned as chains
use Rattle.chains.proofs.Returned.{one_chain}
use Rattle.module_sheet.specs.Returned as modules
use Rattle.module_sheet.proofs.Returned.{one_making}
use Rattle.cazdrob.specs.Host.{check_number, beyond_number, SaysBeyond, HostMeasures, HostSearches, HostTracks, HostChains, HostMakes}

module _ {bytes buffer work buffer' work' : List ℕ} {density' r : ℕ} (host : HostSearches bytes buffer work buffer' work' density' r) where
  -- it kept the promise of the library's search
  pub library_search : Searches bytes buffer work buffer' work' (searched_of bytes (length buffer) (length work))
  library_search = record { answer = refl; columns = host.columns; cells = host.cells }

  pub host_search : Returned bytes buffer work buffer' work' r density'
  host_search = rw (host.number, host.density) (one_search _ _ _ _ _ _ library_search)

pub host_measurement : {bytes columns : List ℕ} {density' : ℕ} {amount' : ℤ} {r : ℕ} → HostMeasures bytes columns density' amount' r
    → measure.Returned bytes columns r density' amount'
host_measurement host = rw (host.number, host.density, host.amount) (one_measurement _ _ _ refl)

pub host_beyond : {columns set r : ℕ} → r ≡ beyond_number columns set → SaysBeyond columns set r
host_beyond {columns} {set} {r} = by-test (names_above columns set) refl
  where
    by-test : (t : Bool) → names_above columns set ≡ t → r ≡ check_number (refuse t Beyond) → SaysBeyond columns set r
    by-test true above eight =
        let (c, behind, named) = (names_above_exactly columns set).0 above in
        record {
          beyond = (λ e. (c, behind, named), λ some. eight);
          within = (λ zero. absurd (omega arith), λ none. absurd (true≢false (sym named ∙ none c behind)));
        }
    by-test false above zero = record {
      beyond = (λ eight. absurd (omega arith), λ some. absurd (true≢false (sym ((names_above_exactly columns set).1 some) ∙ above)));
      within = (λ e c behind. allows-below set columns c (leb-false (2 ^ columns) set above) behind, λ none. zero);
    }

pub host_distance :
    {least greatest before column : ℕ} {r : ℤ} → r ≡ amount least greatest before column
    → Says least greatest before column r
host_distance e = rw e (amount_says _ _ _ _)

pub host_tracks :
    {bytes columns : List ℕ} {array array' : List Span} {nets' tracks' : ℕ} {amount' : ℤ} {r : ℕ}
    → HostTracks bytes columns array array' nets' tracks' amount' r → tracks.Returned bytes columns array array' r nets' tracks' amount'
host_tracks host =
    let numbers = host.numbers in
    rw (numbers.number, numbers.nets, numbers.tracks, numbers.amount) (one_routing _ _ _ _ _ refl host.spans)

pub host_chain :
    {bytes columns : List ℕ} {chain' bound' net' : ℕ} {amount' : ℤ} {r : ℕ} → HostChains bytes columns chain' bound' net' amount' r
    → chains.Returned bytes columns r chain' bound' net' amount'
host_chain host = rw (host.number, host.chain, host.bound, host.net, host.amount) (one_chain _ _ _ refl)

pub host_modules :
    {l : ℕ} {top bottom sheet sheet' : List ℕ} {written' r : ℕ} → HostMakes l top bottom sheet sheet' written' r
    → modules.Returned l top bottom sheet sheet' r written'
host_modules host =
    rw (host.number, host.written) (one_making _ _ _ _ _ _ (record { answer = refl; bytes = host.bytes; reads = host.reads }))
