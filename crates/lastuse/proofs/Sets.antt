-- A turn noted in the chains of one of several sets.
use Rattle.std.proofs.Common.{◌≡◌, ℕ, ◌+◌, ◌*◌, ◌<◌, ◌≤◌, List, length, get_or, set, Option, Some, None, sym, refl, ap, ◌∙◌, arith}
use Rattle.std.proofs.lemmas.Bool.{eq-eqb, ne_eqb}
use Rattle.std.proofs.lemmas.List.{length-set}
use Rattle.parts.specs.Equal.{part}
use Rattle.parts.proofs.Writes.{length_part, part_set, past_set, get_d_part}
use Rattle.lastuse.specs.declared.Entry.{Entry}
use Rattle.lastuse.specs.Chains.{Chained, Latest, Absent, chain_of, at}
use Rattle.lastuse.specs.Sets.{Mapped}
use Rattle.lastuse.proofs.Walks.{set_at, push_at, look_latest, look_absent}

module _ (chains room sets : ℕ) (hs : List (Option ℕ)) (es : List Entry) (j x turn used : ℕ) (b : j < sets) (wide : j * chains + chains ≤ length hs) (deep : j * room + room ≤ length es)
    (c : Chained (part chains j hs) (part room j es) used) where
  -- a line that has an entry: its turn is written there, and no link changes
  pub map_old : (i : ℕ) → used ≤ room → Latest (part room j es) used x i
      → Mapped chains room sets hs hs es (set es (j * room + i) (record { line = record { 0 = x }; last = turn; next = (at es (j * room + i)).next })) j x turn used
      (Some (at es (j * room + i)).last) used
  map_old i u l =
      let low : i < room = omega (arith, l.within) in
      let e : Entry = record { line = record { 0 = x }; last = turn; next = (at es (j * room + i)).next } in
      let here : at (part room j es) i ≡ at es (j * room + i) = get_d_part room j i es _ low in
      let s = set_at (part room j es) used x i turn c.room l (part chains j hs) c in
      let mine : part room j (set es (j * room + i) e) ≡ set (part room j es) i (record { line = record { 0 = x }; last = turn; next = (at (part room j es) i).next }) =
      part_set room j j i es e low ∙ rw (eq-eqb j j refl, here) in
      record {
        chained = rw mine s.0;
        looks = rw mine s.1;
        before = ap (λ a. Some a.last) (sym here) ∙ sym (look_latest (part room j es) used x i l);
        grows = omega arith;
        heads = λ k d. refl;
        entries = λ k d. part_set room j k i es e low ∙ rw (ne_eqb k j d);
        heads_past = refl;
        entries_past = past_set room sets j i es e b low;
        wide = refl;
        deep = length-set es (j * room + i) e;
      }

  -- a new line: its entry is the next one, it leads to what its head led to, and the head leads to it
  pub map_new : (s : ℕ) → used < room → Absent (part room j es) used x → s ≡ chain_of x chains → s < chains
      → Mapped chains room sets hs (set hs (j * chains + s) (Some used)) es
      (set es (j * room + used) (record { line = record { 0 = x }; last = turn; next = get_or hs (j * chains + s) None })) j x turn used None (used + 1)
  map_new s u n s_is s_in =
      let e : Entry = record { line = record { 0 = x }; last = turn; next = get_or hs (j * chains + s) None } in
      let here = get_d_part chains j s hs None s_in in
      let many = length_part chains j hs wide in
      let long = length_part room j es deep in
      let p = push_at (part room j es) used x turn s (omega arith) (part chains j hs) (rw many s_is) (omega arith) c in
      let mine : part room j (set es (j * room + used) e) ≡ set (part room j es) used (record { line = record { 0 = x }; last = turn; next = get_or (part chains j hs) s None }) =
      part_set room j j used es e u ∙ rw (eq-eqb j j refl, here) in
      let mine_heads : part chains j (set hs (j * chains + s) (Some used)) ≡ set (part chains j hs) s (Some used) =
      part_set chains j j s hs (Some used) s_in ∙ rw (eq-eqb j j refl) in
      record {
        chained = rw (mine, mine_heads) p.0;
        looks = rw mine p.1;
        before = sym (look_absent (part room j es) used x n);
        grows = omega arith;
        heads = λ k d. part_set chains j k s hs (Some used) s_in ∙ rw (ne_eqb k j d);
        entries = λ k d. part_set room j k used es e u ∙ rw (ne_eqb k j d);
        heads_past = past_set chains sets j s hs (Some used) b s_in;
        entries_past = past_set room sets j used es e b u;
        wide = length-set hs (j * chains + s) (Some used);
        deep = length-set es (j * room + used) e;
      }
