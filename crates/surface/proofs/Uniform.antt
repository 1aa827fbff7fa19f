-- A cell whose corners are all on one side needs nothing. Assumes nothing.
use Rattle.std.proofs.Common.{◌≡◌, ℕ, ◌<◌, Bool, true, false, cond, ◌&&◌, ◌||◌, leb, List, length, get_or, replicate, Some, None, sym, refl, ◌∙◌, arith, Option}
use mathlib.Core.Bool.{beq}
use Rattle.std.proofs.lemmas.List.{ext_get_or, get_or-replicate}
use Rattle.std.proofs.lemmas.Bool.{le-leb}
use Rattle.refusal.specs.declared.refusals.Refusal.TheVariants.{EntryRoom, VertexRoom, TriangleRoom}
use Rattle.grid.specs.declared.geometry.Point.{Point}
use Rattle.grid.specs.declared.geometry.GridEdge.{GridEdge}
use Rattle.grid.specs.Cells.{corner, tetrahedra, pack, value, odd}
use Rattle.grid.specs.Cases.{row, rows, swap}
use Rattle.grid.specs.Patterns.{flag_edges, flag_triangles, flag_tet, flag_mask}
use Rattle.keymap.specs.declared.table.Entry.{Entry}
use Rattle.keymap.specs.Frees.{free}
use Rattle.surface.specs.declared.sizes.Counts.{Counts}
use Rattle.surface.specs.Marches.{room_refusal}
use Rattle.surface.specs.Needs.{flag_need}
use Rattle.surface.specs.Rooms.{room_left}
use Rattle.surface.specs.States.{Tables}

abbrev pub nothing : Counts
nothing = record { vertices = 0; triangles = 0 }

pub uniform_need : (es : List (Option (Entry GridEdge))) (b : Bool) (B : Point) → nothing ≡ flag_need es (replicate 8 b) B
unfolding flag_need flag_edges flag_triangles flag_tet flag_mask corner tetrahedra pack value odd row rows swap
uniform_need es true B = refl
uniform_need es false B = refl

-- and where nothing is needed nothing is lacking
pub nothing_lacks : (s : Tables) (cell : ℕ) → room_refusal s nothing cell ≡ None
nothing_lacks s cell =
    λ i.
    cond (some (free s.numbered.entries) i)
    (cond (some (room_left (length s.numbered.vertices) s.numbered.count) i)
    (cond (some (room_left (length s.triangles) s.count) i) None (Some (TriangleRoom cell)))
    (Some (VertexRoom cell)))
    (Some (EntryRoom cell))
  where
    some : (n : ℕ) → leb 0 n ≡ true
    some n = le-leb 0 n (omega arith)

-- eight flags of which all are set if one is
uniform_flags : (a b c d e f g h : Bool) → beq (a || b || c || d || e || f || g || h) (a && b && c && d && e && f && g && h) ≡ true → (b ≡ a) × (c ≡ a) × (d ≡ a) × (e ≡ a) × (f ≡ a) × (g ≡ a) × (h ≡ a)
uniform_flags a b c d e f g h t = grind arith

abbrev some_of : List Bool → Bool
some_of l =
    get_or l 0 false || get_or l 1 false || get_or l 2 false || get_or l 3 false || get_or l 4 false || get_or l 5 false || get_or l 6 false || get_or l 7 false

abbrev all_of : List Bool → Bool
all_of l =
    get_or l 0 false && get_or l 1 false && get_or l 2 false && get_or l 3 false && get_or l 4 false && get_or l 5 false && get_or l 6 false && get_or l 7 false

pub each_as_first : (l : List Bool) → beq (some_of l) (all_of l) ≡ true → (k : ℕ) → k < 8 → get_or l k false ≡ get_or l 0 false
each_as_first l t k h =
    let p = uniform_flags (get_or l 0 false) (get_or l 1 false) (get_or l 2 false) (get_or l 3 false) (get_or l 4 false) (get_or l 5 false) (get_or l 6 false) (get_or l 7 false) t in
    grind (arith, h, p.0, p.1, p.2, p.3, p.4, p.5, p.6)

pub uniform_list : (l : List Bool) → length l ≡ 8 → beq (some_of l) (all_of l) ≡ true → l ≡ replicate 8 (get_or l 0 false)
uniform_list l eight t =
    let b = get_or l 0 false in
    ext_get_or false l (replicate 8 b) eight (λ k h. each_as_first l t k (omega (arith, h, eight)) ∙ sym (get_or-replicate 8 k b false (omega (arith, h, eight))))
