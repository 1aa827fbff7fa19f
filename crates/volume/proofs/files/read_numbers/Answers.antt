use Rattle.std.proofs.Common.{◌≡◌, ◌+◌, ◌*◌, length, get_or, drop, Some, map, arith, ap, ◌∙◌}
use lib.Seq.{sets}
use Rattle.grid.specs.Shapes.{sides}
use Rattle.volume.specs.Files.{sample_count, run}
use Rattle.volume.proofs.Runs.{numbers_cut, after_first, chunks_run, length-first_chunks}
use Rattle.volume.proofs.files.read_numbers.Goals as goal

pub fill-requires : goal.fill-requires
fill-requires g c =
    let b = c.args.bytes.now in
    let w = g.row.WIDTH in
    let fits = c.in_ok-shape.ensures.fits in
    let count = sample_count (sides c.in_ok-shape.shape) in
    let cut = numbers_cut w count b c.as_chunks.result.0.now c.requires.some fits.0 c.as_chunks.ensures.front in
    let many = ap length (after_first c.as_chunks.result.0.now _ _ cut) ∙ length-first_chunks w count (drop (4 + w) b) in
    (omega arith, omega (arith, many))

pub returns : goal.returns
returns g c =
    let b = c.args.bytes.now in
    let w = g.row.WIDTH in
    let number = g.N.FileNumber.number in
    let answer = c.in_ok-shape.ensures.answer in
    let fits = c.in_ok-shape.ensures.fits in
    let count = sample_count (sides c.in_ok-shape.shape) in
    let cut = numbers_cut w count b c.as_chunks.result.0.now c.requires.some fits.0 c.as_chunks.ensures.front in
    let rest = after_first c.as_chunks.result.0.now _ _ cut in
    let first = c.index-numbers-0.is ∙ ap (λ (l : _). get_or l 0 c.index-numbers-0.result) cut in
    let own = g.met.N.FileNumber.own in
    let four : 4 + w ≡ 4 + w * 1 = omega arith in
    let samples = ap (map (λ b. Some (number b 0))) rest ∙ chunks_run number w own b count 0 (4 + w) four ∙ ap (λ (s : _). run w number b (sample_count s)) answer.1 in (
      answer.0,
      answer.1,
      c.from_bytes.ensures ∙ ap (λ (l : _). number l 0) first ∙ own b 4,
      c.fill.ensures ∙ ap (sets c.args.table.now 0) samples,
    )
