use Rattle.std.proofs.Common.{◌-◌, take, sym}
use Rattle.replacement.specs.Srrip.{risen}
use Rattle.replacement.proofs.Ways.{has_first, found_at, found_none, pass_front}
use Rattle.replacement.proofs.Srrip.{hit_moves, fill_moves, evict_moves}
use Rattle.rows.proofs.srrip.SrripAgingAging.touch.Goals as goal

pub returns-in-Some : goal.returns-in-Some
returns-in-Some c =
    let w = c.args.ways in
    let s = c.args.row.now.ways in
    let f = found_at c.args.line.0 c.in-Some.w (take w s) c.in-Some.ensures in
    record { moves = hit_moves w c.in-Some.w c.args.line.0 s f.0 f.1 c.at.result.now (c.at.ensures.value _); answer = sym (has_first c.args.line.0 c.in-Some.w (take w s) f.0 f.1) }

pub returns-in-Empty : goal.returns-in-Empty
returns-in-Empty c =
    let w = c.args.ways in
    let s = c.args.row.now.ways in
    let f = c.in-Empty.ensures in
    let miss = found_none c.args.line.0 (take w s) c.in_default.ensures in
    record { moves = fill_moves w c.in-Empty.w c.args.line.0 s miss f.0 f.1; answer = sym miss }

pub returns-in-Oldest : goal.returns-in-Oldest
returns-in-Oldest c =
    let w = c.args.ways in
    let s = c.args.row.now.ways in
    let f = c.in-Oldest.ensures in
    let miss = found_none c.args.line.0 (take w s) c.in_default.ensures in
    record { moves = evict_moves w c.in-Oldest.w c.in-Oldest.age c.args.line.0 s _ c.requires.fine c.requires.some miss f.0 f.1 f.2 (pass_front (risen (3 - c.in-Oldest.age)) w s _ _ c.requires.fine.0 c.rise.ensures); answer = sym miss }
