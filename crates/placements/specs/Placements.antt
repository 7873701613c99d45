-- Placements of modules without overlap, and the way between left edges and columns (document 02, T-02; document 003, section 5.3).
-- Assumes nothing.
use Rattle.std.specs.Prelude.{ℕ, ◌+◌, ◌-◌, ◌≡◌, List, [], ◌∷◌, ◌++◌, Bool, true, false, ◌&&◌, length, get_or, take, drop, leb}
use Rattle.channel.specs.Assignment.{allows, is_assignment}
use Rattle.modules.specs.declared.Pin.{Pin}
use Rattle.modules.specs.Modules.{Module, first_offset, pin_count, module_sheet}

-- one left edge for each module, in its set, the first at `start` or right of it, and edge + width ≤ the next edge
abbrev pub placed_from : ℕ → List Module → List ℕ → Bool
placed_from start [] [] = true
placed_from start [] (e ∷ es) = false
placed_from start (m ∷ ms) [] = false
placed_from start (m ∷ ms) (e ∷ es) = allows m.edges e && (leb start e && placed_from (e + m.width) ms es)

-- "the placements without overlap" of one side
unfoldable pub is_placed : List Module → List ℕ → Bool
is_placed ms es = placed_from 0 ms es

-- the left edges of both sides, and whether they are a placement
pub record Edges : Type 0 where
  pub top : List ℕ
  pub bottom : List ℕ

abbrev pub is_placement : List Module → List Module → Edges → Bool
is_placement top bottom es = is_placed top es.top && is_placed bottom es.bottom

-- the columns of a module's pins where its left edge is at e: offset 1 is the left edge
abbrev pub pin_columns : ℕ → List Pin → List ℕ
pin_columns e [] = []
pin_columns e (p ∷ ps) = (e + p.offset - 1) ∷ pin_columns e ps

-- left edges to columns, of one side
abbrev pub side_columns : List Module → List ℕ → List ℕ
side_columns [] es = []
side_columns (m ∷ ms) [] = []
side_columns (m ∷ ms) (e ∷ es) = pin_columns e m.pins ++ side_columns ms es

-- the left edge of a module whose first pin stands in the first of these columns
abbrev pub edge_of : List Pin → List ℕ → ℕ
edge_of pins cs = get_or cs 0 0 + 1 - first_offset pins

-- columns to left edges, of one side
abbrev pub side_edges : List Module → List ℕ → List ℕ
side_edges [] cs = []
side_edges (m ∷ ms) cs = edge_of m.pins cs ∷ side_edges ms (drop (length m.pins) cs)

-- a placement as a column list of the sheet, and back
abbrev pub sheet_columns : List Module → List Module → Edges → List ℕ
sheet_columns top bottom es = side_columns top es.top ++ side_columns bottom es.bottom

abbrev pub sheet_edges : List Module → List Module → List ℕ → Edges
sheet_edges top bottom cs =
    record { top = side_edges top (take (pin_count top) cs); bottom = side_edges bottom (drop (pin_count top) cs) }

-- "The sheet's assignments must match, one to one, the placements without overlap": the columns of a placement are an assignment, the left
-- edges of an assignment are a placement, and each way undoes the other
pub record Matches (l : ℕ) (top bottom : List Module) : Type 0 where
  pub columns :
      (es : Edges) → is_placement top bottom es ≡ true
      → (is_assignment (module_sheet l top bottom) (sheet_columns top bottom es) ≡ true)
      × (sheet_edges top bottom (sheet_columns top bottom es) ≡ es)
  pub edges :
      (cs : List ℕ) → is_assignment (module_sheet l top bottom) cs ≡ true
      → (is_placement top bottom (sheet_edges top bottom cs) ≡ true)
      × (sheet_columns top bottom (sheet_edges top bottom cs) ≡ cs)
