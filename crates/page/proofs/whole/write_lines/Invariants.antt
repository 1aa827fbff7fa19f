use Rattle.std.proofs.Common.{map}
use Rattle.page.proofs.Pages.{Vertices, Faces}
use Rattle.page.proofs.whole.write_lines.Given as goal

abbrev pub invariant-loop-vertex : goal.invariant-loop-vertex
invariant-loop-vertex g l =
    Vertices (map g.P.Located.place l.vertices) l.triangles l.vertex-index l.initial.buffer l.buffer l.«open»

abbrev pub invariant-loop-triangle : goal.invariant-loop-triangle
invariant-loop-triangle g l =
    Faces (map g.P.Located.place l.vertices) l.triangles l.triangle-index l.initial.buffer l.buffer l.faces
