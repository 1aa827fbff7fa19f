-- What each refusal returns: its number and its place.
use Rattle.std.specs.Prelude.{ℕ, List, ◌++◌, codes, decimal}
use Rattle.refusal.specs.declared.refusals.Axis.{Axis}
use Rattle.refusal.specs.declared.refusals.Axis.TheVariants.{X, Y, Z}
use Rattle.refusal.specs.declared.refusals.Part.{Part}
use Rattle.refusal.specs.declared.refusals.Part.TheVariants.{Numerator, Denominator}
use Rattle.refusal.specs.declared.refusals.Refusal.{Refusal}
use Rattle.refusal.specs.declared.refusals.Refusal.TheVariants.{Side, Outside, OtherShape, Marched, NoMark, EntryRoom, VertexRoom, TriangleRoom, FileLength, FileKind, RatioPart, TableRoom, PageRoom, LineCount, WorkRoom}

-- the axes are numbered from 0, and so are the parts of a ratio
abbrev pub axis_number : Axis → ℕ
axis_number X = 0
axis_number Y = 1
axis_number Z = 2

abbrev pub part_number : Part → ℕ
part_number Numerator = 0
part_number Denominator = 1

-- the number of a refusal, and its place
abbrev pub code : Refusal → ℕ × ℕ
code (Side axis) = (1, axis_number axis)
code (Outside number) = (2, number)
code (OtherShape axis) = (3, axis_number axis)
code (Marched cell) = (4, cell)
code (NoMark cell) = (5, cell)
code (EntryRoom cell) = (6, cell)
code (VertexRoom cell) = (7, cell)
code (TriangleRoom cell) = (8, cell)
code (FileLength due) = (9, due)
code FileKind = (10, 0)
code (RatioPart part) = (11, part_number part)
code (TableRoom needed) = (12, needed)
code (PageRoom free) = (13, free)
code (LineCount written) = (14, written)
code (WorkRoom needed) = (15, needed)

-- `refused N P`: how a refusal is printed
abbrev pub line : Refusal → List ℕ
line e = codes "refused " ++ (decimal (code e).0 ++ (codes " " ++ decimal (code e).1))
