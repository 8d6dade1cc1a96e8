use Rattle.std.proofs.Common.{ℕ, take, get_or, sym, subst, inl, inr}
use Rattle.replacement.specs.Ways.{no_way}
use Rattle.replacement.specs.Lru.{older}
use Rattle.replacement.proofs.Ways.{has_first, found_at, found_none, pass_front}
use Rattle.replacement.proofs.Lru.{Chosen, hit_moves, hit_stays, miss_moves}
use Rattle.rows.proofs.lru.LruAgingAging.touch.Goals as goal
use Rattle.rows.proofs.lru.LruAgingAging.touch.Goals.{in-Empty, in-Oldest}

pub returns-then-age-gt0 : goal.returns-then-age-gt0
returns-then-age-gt0 c =
    let w = c.args.ways in
    let s = c.args.row.now.ways in
    let f = found_at c.args.line.0 c.in-Some.w (take w s) c.in-Some.ensures in
    let older_ways = pass_front (older (get_or s c.in-Some.w no_way).age) w s _ _ c.requires.fine.0 c.make_older.ensures in
    record { moves = hit_moves w c.in-Some.w c.args.line.0 s f.0 f.1 _ older_ways; answer = sym (has_first c.args.line.0 c.in-Some.w (take w s) f.0 f.1) }

pub returns-else-age-gt0 : goal.returns-else-age-gt0
returns-else-age-gt0 c =
    let w = c.args.ways in
    let s = c.args.row.now.ways in
    let f = found_at c.args.line.0 c.in-Some.w (take w s) c.in-Some.ensures in
    record { moves = hit_stays w c.in-Some.w c.args.line.0 s f.0 f.1 c.if-age-gt0.false; answer = sym (has_first c.args.line.0 c.in-Some.w (take w s) f.0 f.1) }

pub returns : goal.returns
returns c =
    let w = c.args.ways in
    let s = c.args.row.now.ways in
    let miss = found_none c.args.line.0 (take w s) c.in_default.ensures in
    let chosen : Chosen (take w s) c.match-choose.w.0 c.match-choose.w.1 = elim c.match-choose.branch [
      | in-Empty k ↦ let h = k.in-Empty.ensures in subst (λ (p : ℕ × ℕ). Chosen (take w s) p.0 p.1) (sym k.w-is) (record { inside = h.1; how = inl (h.0, sym c.requires.fine.0) })
      | in-Oldest k ↦ let h = k.in-Oldest.ensures in subst (λ (p : ℕ × ℕ). Chosen (take w s) p.0 p.1) (sym k.w-is) (record { inside = h.3; how = inr (h.0, h.1, h.2) })
    ] in
    record { moves = miss_moves w _ _ c.args.line.0 s _ miss chosen (pass_front (older c.match-choose.w.1) w s _ _ c.requires.fine.0 c.make_older-2.ensures); answer = sym miss }
