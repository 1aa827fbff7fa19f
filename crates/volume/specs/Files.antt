-- Volume files: what their bytes mean, and why one is refused.
use Rattle.std.specs.Prelude.{◌≡◌, ℕ, ◌+◌, ◌*◌, cond, not, List, map, length, Some, Option, ◌==◌, nat_lt, slice_index}
use Rattle.std.proofs.lemmas.List.Edits.{sets}
use Rattle.std.specs.List.{range_with_len}
use Rattle.std.specs.Option.{option_or}
use Rattle.std.specs.Bool.{then_some}
use Rattle.refusal.specs.declared.refusals.Refusal.{Refusal}
use Rattle.refusal.specs.declared.refusals.Refusal.TheVariants.{FileLength, FileKind, TableRoom}
use Rattle.grid.specs.Points.{Sides}
use Rattle.grid.specs.Shapes.{sides, sides_refusal}
use Rattle.volume.specs.declared.files.FileHeader.{FileHeader}
use Rattle.volume.specs.declared.files.FileHeader.TheVariants.{Densities, Labels}

-- how many samples a block has
abbrev pub sample_count : Sides → ℕ
sample_count s = s.nx * (s.ny * s.nz)

-- two bytes, the low one first
abbrev pub word : List ℕ → ℕ → ℕ
word b at = slice_index b at + 256 * slice_index b (at + 1)

-- the kind byte, 1 for densities and 2 for labels, and a byte for each side
abbrev pub file_kind : List ℕ → ℕ
file_kind b = slice_index b 0

abbrev pub file_sides : List ℕ → Sides
file_sides b = record { nx = slice_index b 1; ny = slice_index b 2; nz = slice_index b 3 }

-- the level, in as many bytes as a sample
abbrev pub density_level : List ℕ → ℕ
density_level b = word b 4

abbrev pub label_level : List ℕ → ℕ
label_level b = slice_index b 4

-- the first n numbers after the level, where each takes `width` bytes, and `number` is what begins at a place
abbrev pub run : {X : Type 0} → ℕ → (List ℕ → ℕ → X) → List ℕ → ℕ → List (Option X)
run width number b n = map (λ i. Some (number b (4 + width * (1 + i)))) (range_with_len 0 n)

-- the first n samples: a density takes two bytes, and a label one
abbrev pub density_run : List ℕ → ℕ → List (Option ℕ)
density_run = run 2 word

abbrev pub label_run : List ℕ → ℕ → List (Option ℕ)
label_run = run 1 slice_index

-- every sample, in table order
abbrev pub density_samples : List ℕ → List (Option ℕ)
density_samples b = density_run b (sample_count (file_sides b))

abbrev pub label_samples : List ℕ → List (Option ℕ)
label_samples b = label_run b (sample_count (file_sides b))

-- the length of a file whose level and samples take `width` bytes each
abbrev pub length_due : ℕ → Sides → ℕ
length_due width s = 4 + width * (1 + sample_count s)

-- why a file of a known kind is refused: its sides, its length, or the room of the table for its samples, in this order
abbrev pub body_refusal : List ℕ → ℕ → ℕ → Option Refusal
body_refusal b width room =
    option_or (sides_refusal (file_sides b))
    (option_or (then_some (not (length b == length_due width (file_sides b))) (FileLength (length_due width (file_sides b))))
    (then_some (nat_lt room (sample_count (file_sides b))) (TableRoom (sample_count (file_sides b)))))

-- why a file is refused, with the room of the two tables
abbrev pub file_refusal : List ℕ → ℕ → ℕ → Option Refusal
file_refusal b densities labels =
    cond (nat_lt (length b) 4) (Some (FileLength 4))
    (cond (file_kind b == 1) (body_refusal b 2 densities)
    (cond (file_kind b == 2) (body_refusal b 1 labels) (Some FileKind)))

-- the header is the file's, its samples stand at the start of the table of its kind, and all else in the two tables is as it was
abbrev pub Held : FileHeader → List ℕ → (densities densities' labels labels' : List (Option ℕ)) → Type 0
Held (Densities shape level) b ds ds' ls ls' =
    (file_kind b ≡ 1) × (sides shape ≡ file_sides b) × (level ≡ density_level b) × (ds' ≡ sets ds 0 (density_samples b)) × (ls' ≡ ls)
Held (Labels shape level) b ds ds' ls ls' =
    (file_kind b ≡ 2) × (sides shape ≡ file_sides b) × (level ≡ label_level b) × (ls' ≡ sets ls 0 (label_samples b)) × (ds' ≡ ds)
