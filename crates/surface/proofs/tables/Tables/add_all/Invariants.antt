use Rattle.std.proofs.Common.{◌≡◌, ◌+◌, length, take}
use Rattle.surface.specs.States.{added_all}
use Rattle.surface.specs.Views.{tabled}
use Rattle.surface.proofs.tables.Tables.add_all.Given as goal

abbrev pub invariant-loop-triangle : goal.invariant-loop-triangle
invariant-loop-triangle g l =
    (tabled l.self ≡ added_all (g.F.Field.field l.field).place (tabled l.initial.self) (take l.triangle-index l.list))
    × (l.self.triangles.count ≡ l.initial.self.triangles.count + l.triangle-index)
    × (length l.self.triangles.items.now ≡ length l.initial.self.triangles.items.now)
    × (l.self.numbering.map.entries.ghost_name ≡ l.initial.self.numbering.map.entries.ghost_name)
    × (l.self.numbering.vertices.items.ghost_name ≡ l.initial.self.numbering.vertices.items.ghost_name)
    × (l.self.triangles.items.ghost_name ≡ l.initial.self.triangles.items.ghost_name)
