-- Document 02, T-04, of a sheet and a column list: the spans of its nets, one a net in order, are what is asked, on as many tracks as the
-- density.
-- Assumes nothing.
use Rattle.std.proofs.Common.{◌≡◌, ℕ, ◌<◌, ◌≤◌, Bool, true, eqb, List, [], ◌∷◌, ◌++◌, map, length, sym, refl, ap, ◌∙◌, subst, arith, take-append-drop}
use Rattle.std.proofs.Math.ListN.{length-map}
use Rattle.std.proofs.Math.Path.{fun_ext}
use Rattle.mark.specs.declared.Mark.{Mark}
use Rattle.channel.specs.Sheet.{Sheet, Sound, all_nets}
use Rattle.channel.specs.Assignment.{is_assignment, top_columns, bottom_columns}
use Rattle.channel.specs.Density.{any, Pin, pins, straight, straight_in, crosses, distinct, nets_of, column_density, maximum_to, density}
use Rattle.channel.proofs.Columns.{Rises, rises_bound}
use Rattle.channel.proofs.Assignments.{fits_rises}
use Rattle.left_edge.specs.declared.Interval.{Interval}
use Rattle.left_edge.specs.declared.Span.{Span}
use Rattle.left_edge.specs.Lists.{Each, Pairwise}
use Rattle.left_edge.specs.Order.{Sooner}
use Rattle.left_edge.specs.Method.{greatest}
use Rattle.left_edge.specs.Routes.{Routes}
use Rattle.left_edge.specs.Spans.{left_end, right_end, interval_of, nets_by_left, spans_in, spans_of}
use Rattle.left_edge.proofs.Lists.{each_all, each_append, each_image, pairwise_map, pairwise_image}
use Rattle.left_edge.proofs.Order.{
  sooner_rises,
  weight-in_order,
  any-in_order,
  length-in_order,
  ordered_in_order,
  ordered_unique,
  any-distinct,
  distinct_once,
}
use Rattle.left_edge.proofs.Method.{Fits, NoLater, each_span, nets_same, routes-edge}
use Rattle.left_edge.proofs.Ends.{Inside, PinsInside, pins_inside, interval-fits}

-- of a list of pins and the nets
module _ (ps : List Pin) (ns : List ℕ) where
  -- "by left end, then net number", "one for each net"
  pub nets_ordered : Pairwise (Sooner (left_end ps)) (nets_by_left ps ns)
  nets_ordered = ordered_in_order (left_end ps) (distinct ns) (distinct_once ns)

  pub nets-all : (f : ℕ → Bool) → any f (nets_by_left ps ns) ≡ any f ns
  nets-all f = any-in_order (left_end ps) f (distinct ns) ∙ any-distinct f ns

  -- and no other list has them so
  pub nets_unique : (ms : List ℕ) → Pairwise (Sooner (left_end ps)) ms → ((k : ℕ) → any (eqb k) ms ≡ any (eqb k) ns)
      → ms ≡ nets_by_left ps ns
  nets_unique ms h e = ordered_unique (left_end ps) ms (nets_by_left ps ns) h nets_ordered (λ k. e k ∙ sym (nets-all (eqb k)))

  -- and their spans under a mark
  module _ (m : Mark) (l : ℕ) where
    abbrev interval : ℕ → Interval
    interval = interval_of (straight m ns) l ps

    abbrev crossing : ℕ → ℕ → Bool
    crossing = crosses (straight m ns) ps

    net-map : (ms : List ℕ) → map (λ (x : Interval). x.net) (map interval ms) ≡ ms
    net-map [] = refl
    net-map (n ∷ ms) = ap (λ (ks : List ℕ). n ∷ ks) (net-map ms)

    -- "one for each net of the sheet, in that same order"
    pub span-nets : map (λ (x : Span). x.net) (spans_in m l ps ns) ≡ nets_by_left ps ns
    unfolding spans_in
    span-nets = nets_same [] (map interval (nets_by_left ps ns)) ∙ net-map (nets_by_left ps ns)

    pub spans-length : length (spans_in m l ps ns) ≡ length (distinct ns)
    spans-length =
        sym (length-map (spans_in m l ps ns) (λ (x : Span). x.net)) ∙ ap length span-nets ∙ length-in_order (left_end ps) (distinct ns)

    -- each with its net's ends
    pub span-ends : Each (λ (x : Span). (x.left ≡ left_end ps x.net) × (x.right ≡ right_end l ps x.net)) (spans_in m l ps ns)
    unfolding spans_in
    span-ends =
        each_span (λ (x : Interval). (x.left ≡ left_end ps x.net) × (x.right ≡ right_end l ps x.net)) _ (λ es x h. h) []
        (map interval (nets_by_left ps ns))
        (each_image interval _ (nets_by_left ps ns) (each_all _ (nets_by_left ps ns) (λ n. (refl, refl))))

    pub routes-in : 1 ≤ l → l < 255 → PinsInside l ps → Routes l crossing (nets_by_left ps ns) (spans_in m l ps ns)
    unfolding spans_in
    routes-in first short inside =
        let ms : List ℕ = nets_by_left ps ns in
        let fits : Each (λ (n : ℕ). Fits l crossing (interval n)) ms = each_all _ ms (λ n. interval-fits l first short ps inside n (straight m ns)) in
        let rising : Pairwise (λ (m n : ℕ). left_end ps m ≤ left_end ps n) ms =
        pairwise_map (Sooner (left_end ps)) _ ms (sooner_rises (left_end ps)) nets_ordered in
        subst (λ (ks : List ℕ). Routes l crossing ks (spans_in m l ps ns)) (net-map ms)
        (routes-edge l crossing (map interval ms) (each_image interval (Fits l crossing) ms fits)
        (pairwise_image interval NoLater ms rising))

-- of a sheet and a column list
module _ (s : Sheet) (cs : List ℕ) where
  pub nets-length : length (spans_of s cs) ≡ length (nets_of s)
  unfolding nets_of
  nets-length = spans-length (pins (s.top ++ s.bottom) cs) (all_nets s) s.mark s.columns

  module _ (first : 1 ≤ s.columns) (short : s.columns < 255) (inside : Each (Inside s.columns) cs) where
    pub sheet-routes :
        let ps : List Pin = pins (s.top ++ s.bottom) cs in
        Routes s.columns (crosses (straight_in s) ps) (nets_by_left ps (all_nets s)) (spans_of s cs)
    sheet-routes =
        routes-in (pins (s.top ++ s.bottom) cs) (all_nets s) s.mark s.columns first short
        (pins_inside s.columns (s.top ++ s.bottom) cs inside)

    -- "Exactly as many tracks as the density are used"
    pub tracks-density : greatest (spans_of s cs) ≡ density s cs
    unfolding density column_density nets_of
    tracks-density =
        let ps : List Pin = pins (s.top ++ s.bottom) cs in
        sheet-routes.number
        ∙ ap (maximum_to s.columns)
        (fun_ext (λ (c : ℕ). weight-in_order (left_end ps) (λ (n : ℕ). crosses (straight_in s) ps n c) (distinct (all_nets s))))

-- the columns of an assignment are among 1 to L
rises_inside : (b : ℕ) (cs : List ℕ) (l : ℕ) → Rises b cs l → Each (Inside l) cs
rises_inside b [] l h = tt
rises_inside b (c ∷ cs) l h = ((omega arith, rises_bound c cs l h.1), rises_inside c cs l h.1)

module _ (s : Sheet) (sound : Sound s) (cs : List ℕ) (h : is_assignment s cs ≡ true) where
  pub assignment_inside : Each (Inside s.columns) cs
  unfolding is_assignment top_columns bottom_columns
  assignment_inside =
      let (t, b) = fits_rises s sound (top_columns s cs) (bottom_columns s cs) h in
      subst (Each (Inside s.columns)) (take-append-drop (length s.top) cs)
      (each_append (Inside s.columns) (top_columns s cs) (bottom_columns s cs) (rises_inside 0 (top_columns s cs) s.columns t)
      (rises_inside 0 (bottom_columns s cs) s.columns b))

  -- so it is for every assignment of a sound sheet
  pub assignment_routes :
      let ps : List Pin = pins (s.top ++ s.bottom) cs in
      Routes s.columns (crosses (straight_in s) ps) (nets_by_left ps (all_nets s)) (spans_of s cs)
  assignment_routes = sheet-routes s cs (omega arith) (omega arith) assignment_inside

  pub assignment_tracks : greatest (spans_of s cs) ≡ density s cs
  assignment_tracks = tracks-density s cs (omega arith) (omega arith) assignment_inside
