-- `at` lends one entry, and the entries follow it, for every entry type and every number of entries. Assumes `Logic`.
-- The code is four statements: the offset w * size, the array's address, the entry's address, the result. So the proof is: what lies in memory is taken apart (`lends`), the walk over the statements (`walk`), and the way to the statement.
use Rattle.std.proofs.Common.{◌≡◌, ℕ, ◌+◌, ◌*◌, ◌^◌, ◌<◌, max, List, [], ◌∷◌, length, get_or, set, sym, refl, ap, ◌∙◌, subst, not-suc-le-zero, le_of_lt, mul-le-mul_right, arith, length-set, w64}
use Rattle.std.proofs.lemmas.List.{get_or_default}
use seplogic.Ra.Ura.{Ura}
use base.Fraction.{full_share}
use base.Logic.{SProp, ent, sep, ex, guard, wand, all_e, apply∗}
use base.Fml.{Lft, GName, Share, Fml, fsep, feq, flft, fobs, fbor}
use mir.Syntax.{Fn, a_type, a_number, named, ty_array}
use mir.Val.{Val, vint, vptr}
use mir.MapTy.{inst_fn}
use prog.Memory.{Memory, size, align, up}
use prog.Align.{up-ge}
use prog.Routine.{Routine}
use prog.Wp.{Calls, Loops, WpFn, Tables}
use types.Logic.{Logic, sem}
use contract.Monad.{Fun, fact, fact_i}
use contract.BorrowLft.{◌⊑◌}
use contract.Lifetimes.{toks, Lfts, Shares, AllOutlive}
use contract.Running.{tables, tables_of}
use sound.WpLaws.{WpFn-mono}
use types.Kit.{‵, raw, ◌⊛◌, later, some, given, ◌$◌, ◌∵◌, !, qed, by, move, keep, group, use1, use2, use3, drop, split, split3, join, await, updating, now, pick, learn, check, rewrite, fsplit, fsplit3, fjoin, feq_l, feq_i, suffices, frame, show, done}
use types.Mut.{open_ref}
use types.SemTy.{Body}
use types.Run.{size_lit, stop, fld, addr, bin, returns, enter}
use types.ByLocal.{alloc_all, pass_all, free_all, look_at, get, through, sets, is}
use denote.Exit.{yes, no}
use denote.RattleType.{RattleType, owns}
use denote.Memory.{part_at, part_of, mem, shares}
use denote.Array.{Array}
use denote.ArrayMemory.{Array-apart, Array-whole}
use denote.Index.{place, place_is, others, takes, puts, row}
use denote.Plain.{uint_vals, uint_Tells}
use denote.Ref.{MutRef, mut_vals, mut_Tells}
use denote.Builtin.{usize, RefMutOf}
use denote.Signature.{plain, types_at}
use denote.Steps.{nothing, heard}
use denote.Follow.{follows, lends_Part, Part}
use denote.Param.{layout, layouts, param, number}
use denote.Param.Laws.{Laws, param_laws, array_laws}
use denote.Struct.Members.{Member}
use denote.Struct.CellSteps.{first_at, BackTo, only_out}
use denote.Triple.Clauses.{Clauses, closing}
use denote.Triple.Entry.{Args, on_entry, alive}
use denote.Triple.Spec.{Meets, triple_of}
use denote.Triple.Table.{entered}
use denote.Triple.Walked.{says, Stays, stay_dropped, walk_of, ends_at, walked, Goes-dropped, Goes-spent_ref, walk_Meets}
use Rattle.rows.specs.Rows.{replaced}
use Rattle.rows.specs.declared.row.Row.{Row}
use Rattle.rows.specs.contracts.row.Row.{the_row, the_type}
use Rattle.rows.specs.contracts.row.Row.at.{ended, clauses}
use Rattle.rows.specs.contracts.row.Row.at.Key.{name as #self}
use Rattle.rows.proofs.row.Row.at.Statement as stated
use Rattle.rows.proofs.row.Row.at.Code as code

-- ---- lists: an entry that is there stands for the default
hd : {X : Type 0} (xs : List X) → 0 < length xs → X
hd [] h = absurd (not-suc-le-zero h)
hd (x ∷ xs) h = x

module _ (Y : RattleType) (N : ℕ) where
  abbrev X : Type 0
  X = Y.Denot

  -- the entry's type, the array's as the struct's one field, and the struct's
  abbrev R : RattleType
  R = param 0 Y

  abbrev field : Member
  field = record { row = Array R N; ty = ty_array (layout Y) N }

  abbrev S : RattleType
  S = the_row R (param 1 (number N))

  abbrev s : ℕ
  s = size (layout Y)

  abbrev function : Fn
  function = inst_fn (layouts (a_type ∷ a_number ∷ []) (Y, (number N, tt))) code.function

  abbrev stayed : Stays (ended Y (number N)).signature.params (ended Y (number N)).kept
  stayed = (stay_dropped (RefMutOf (0 ∷ []) tt (plain (λ _. S)) (λ _. tt)) no, (stay_dropped (plain (λ _. usize)) yes, tt))

  module _ (Lw : Laws Y) {M : Type 1} {𝓤 : Ura M} (𝓛 : Logic 𝓤) where
    open 𝓛 use {H, A}

    abbrev ◌⊢◌ : SProp 𝓤 → SProp 𝓤 → Type 1
    P ⊢ Q = ent 𝓤 P Q

    abbrev ◌∗◌ : SProp 𝓤 → SProp 𝓤 → SProp 𝓤
    P ∗ Q = sep 𝓤 P Q

    abbrev ⟦◌⟧ : Fml → SProp 𝓤
    ⟦ P ⟧ = sem 𝓛 P

    infix 26 ◌⊢◌
    infixr 35 ◌∗◌
    -- ---- memory: the struct is its array, and the array is the entry and the others
    abbrev Back : ℕ → ℕ → SProp 𝓤
    Back b o = BackTo 𝓛 (the_type R (param 1 (number N))).name [] (R ∷ param 1 (number N) ∷ []) field (λ ys. ⟦ part_at S full_share (record { ways = ys }) b o ⟧) b o

    array_out : (d : Row X N) (b o : ℕ) → ⟦ part_at S full_share d b o ⟧ ⊢ ⟦ part_at (Array R N) full_share d.ways b o ⟧ ∗ Back b o
    unfolding part_of
    array_out d b o = only_out 𝓛 (the_type R (param 1 (number N))).name [] (R ∷ param 1 (number N) ∷ []) field ((array_laws R (param_laws 0 Y Lw) N).lawful 𝓛) b o d.ways

    module _ (d : Row X N) (i : ℕ) (li : i < N) (b o : ℕ) where
      abbrev xs : List X
      xs = d.ways

      abbrev Rest : SProp 𝓤
      Rest = ⟦ others (shares R) full_share xs i b o ⟧ ∗ Back b o

      back : length xs ≡ N → (w : X) → ⟦ part_at R full_share w b (i * s + o) ⟧ ∗ Rest ⊢ ⟦ part_at S full_share (replaced d i w) b o ⟧
      back l w =
          let P : SProp 𝓤 = ⟦ part_at (Array R N) full_share (set xs i w) b o ⟧ in
          let Q : SProp 𝓤 = ⟦ part_at S full_share (replaced d i w) b o ⟧ in
          qed 𝓛 (‵ (part_at R full_share w b (i * s + o)) ∷ (‵ (others (shares R) full_share xs i b o) ⊛ raw (Back b o)) ∷ []) ∵
          move ! (1 ∷ []) $ split ! $ move ! (2 ∷ 0 ∷ []) $
          rewrite ! 0 (λ (k : ℕ). ‵ (part_at R full_share w b k)) (sym (place_is s o i)) refl $
          use2 𝓛 (‵ (row R full_share (set xs i w) b o)) (puts (shares R) full_share 𝓛 xs i w b o (subst (λ (k : ℕ). i < k) (sym l) li)) $
          feq_i ! ℕ (length (set xs i w)) N (length-set xs i w ∙ l) $ fjoin ! $
          use1 𝓛 (‵ (part_at (Array R N) full_share (set xs i w) b o)) (Array-whole 𝓛 R full_share N (set xs i w) b o) $ move ! (1 ∷ []) $
          use1 𝓛 (raw (wand 𝓤 P Q)) (all_e 𝓤 (λ (ys : List X). wand 𝓤 ⟦ part_at (Array R N) full_share ys b o ⟧ ⟦ part_at S full_share (record { ways = ys }) b o ⟧) (set xs i w)) $ move ! (1 ∷ 0 ∷ []) $
          by ! (apply∗ 𝓤 P Q)

      module _ (κ : Lft) (q : Share) (γ : GName) where
        -- the reference that is handed out, at the value and under the name t; how the struct's name follows it; what is learned
        abbrev Own : X × GName → Fml
        Own t = (MutRef (named 0) κ R).own_val (record { ref_ptr = (b, i * s + o); ghost_name = t.1; now = t.0 }) (vptr b (i * s + o) ∷ [])

        abbrev Tie : X × GName → Fml
        Tie t = follows S R γ t.1 (replaced d i)

        abbrev Seen : X × GName → Type 0
        Seen t = ((c : X) → t.0 ≡ get_or xs i c) × (length xs ≡ N)

        abbrev Lent : X × GName → SProp 𝓤
        Lent t = guard 𝓤 (Seen t) (⟦ Own t ⟧ ∗ A.lft κ q ∗ ⟦ Tie t ⟧)

        lends : A.obs γ (S.coded.code d) ∗ A.bor κ (Body (mem S) b o γ) ∗ A.lft κ q ⊢ H.⇛ (ex 𝓤 Lent)
        lends =
            qed 𝓛 (‵ (fobs γ (S.coded.code d)) ∷ ‵ (fbor κ (Body (mem S) b o γ)) ∷ ‵ (flft κ q) ∷ []) ∵ updating ! $ open_ref ! tt (mem S) $
            use1 𝓛 (‵ (part_at (Array R N) full_share xs b o) ⊛ raw (Back b o)) (array_out d b o) $ split ! $
            use1 𝓛 (‵ (fsep (feq ℕ (length xs) N) (row R full_share xs b o))) (Array-apart 𝓛 R full_share tt N xs b o) $ fsplit ! $ feq_l ! (λ l.
            let lt : i < length xs = subst (λ (k : ℕ). i < k) (sym l) li in
            let e : X = hd xs (omega arith) in
            let x : X = get_or xs i e in
            use1 𝓛 (‵ (part_at R full_share x b (place s o i)) ⊛ ‵ (others (shares R) full_share xs i b o)) (takes (shares R) full_share 𝓛 xs i e b o lt) $ split ! $
            rewrite ! 0 (λ (k : ℕ). ‵ (part_at R full_share x b k)) (place_is s o i) refl $
            -- [the entry; the others; the way back; the open borrow; obs; auth]
            move ! (1 ∷ 2 ∷ []) $ join ! $ move ! (2 ∷ 3 ∷ 4 ∷ 1 ∷ 0 ∷ []) $ group ! 5 $
            use1 𝓛 (later (some (λ (γ' : GName). raw (Part 𝓛 S R (replaced d i) (named 0) κ q b o b (i * s + o) γ Rest (back l) x γ'))))
            (lends_Part 𝓛 S R (replaced d i) (named 0) κ q b o b (i * s + o) γ Rest (back l) (S.coded.code d) (S.coded.code d) x) $ await ! tt $ pick ! (λ γ'.
            now ! $ show ! Lent (x, γ') $ check ! (λ c. get_or_default xs i e c lt, l) $ done !))

    -- ---- the walk
    module _ (memory : Memory → SProp 𝓤) (run : Routine → Fun 𝓤) where
      abbrev held : Clauses 𝓤 (ended Y (number N))
      held = clauses Y (number N) 𝓛 memory run

      module _ (κs : Lfts 3) (qs : Shares 3) (bounds : AllOutlive 3 (ended Y (number N)).signature.outlives κs) (rb ro : ℕ) (γ : GName) (d : Row X N) (i : ℕ) where
        abbrev a : Args (ended Y (number N)).signature κs
        a = (record { ref_ptr = (rb, ro); ghost_name = γ; now = d }, (i, tt))

        abbrev bound : (walk_of 𝓛 (ended Y (number N)) stayed held).Ghost
        bound = ((κs, qs, bounds, a, (vptr rb ro ∷ [], (vint w64 i ∷ [], tt))), tt)

        abbrev Post : Val → SProp 𝓤
        Post = (walk_of 𝓛 (ended Y (number N)) stayed held).post bound

        module _ (li : i < N) where
          abbrev own : X × GName → Fml
          own = Own d i li rb ro κs.0 qs.0 γ

          abbrev tie : X × GName → Fml
          tie = Tie d i li rb ro κs.0 qs.0 γ

          abbrev seen : X × GName → Type 0
          seen = Seen d i li rb ro κs.0 qs.0 γ

          exits : (t : X × GName) → seen t → alive 𝓛 (ended Y (number N)).signature κs qs ∗ ⟦ own t ⟧ ∗ ⟦ tie t ⟧ ⊢ Post (vptr rb (i * s + ro))
          exits t e =
              qed 𝓛 (raw (alive 𝓛 (ended Y (number N)).signature κs qs) ∷ ‵ (own t) ∷ ‵ (tie t) ∷ []) ∵
              suffices ! _ (ends_at 𝓛 (ended Y (number N)) stayed held bound (vptr rb (i * s + ro)) (record { ref_ptr = (rb, i * s + ro); ghost_name = t.1; now = t.0 }) (tt, (tt, tt)) (tt, (tt, tt))) $
              nothing ! $ nothing ! $ fjoin ! $ nothing ! $ fjoin ! $ move ! (0 ∷ 2 ∷ []) $ join ! $ move ! (1 ∷ 0 ∷ []) $ join ! $ frame ! $ frame ! $ says ! e.1 $ by ! (fact_i 𝓤 _ _ e.0)

        walk : (C : Calls 𝓤 H) (Λ : Loops 𝓤 H) → i < 2 ^ 64
            → on_entry 𝓛 (ended Y (number N)).signature κs qs a (vptr rb ro ∷ [], (vint w64 i ∷ [], tt)) ∗ (held κs a).requires tt ⊢ WpFn 𝓤 H C Λ function (vptr rb ro ∷ vint w64 i ∷ []) Post
        walk C Λ fi =
            let Small : Type 0 = size (layout S) < 2 ^ 63 in
            qed 𝓛 (((‵ (flft κs.0 qs.0) ⊛ raw (toks 𝓛 2 κs.1 qs.1)) ⊛ ‵ (owns (types_at (ended Y (number N)).signature.params κs) a (vptr rb ro ∷ [], (vint w64 i ∷ [], tt))))
            ∷ (raw (fact 𝓤 (κs.1.0 ⊑ Y.lives)) ⊛ raw (fact 𝓤 (κs.1.1.0 ⊑ [])) ⊛ (raw (fact 𝓤 Small) ⊛ raw (fact 𝓤 (i < N)))) ∷ []) ∵
            split ! $ split ! $ move ! (3 ∷ []) $ split3 ! $ drop ! $ drop ! $ split ! $ heard ! Small (λ small. heard ! (i < N) (λ li.
            let whole : N * s < 2 ^ 63 = let g = up-ge (max (align (layout Y)) 1) (up (align (layout Y)) 0 + N * s) in omega (arith, g, small) in
            let tiny : s < 2 ^ 64 = let g = mul-le-mul_right {m = 1} {n = N} s (omega arith) in omega (arith, g, whole) in
            let fmi : i * s < 2 ^ 64 = let g = mul-le-mul_right s (le_of_lt li) in omega (arith, g, whole) in
            -- [the token; the other tokens; what is owned]
            move ! (2 ∷ []) $ fsplit ! $ fsplit3 ! $ keep ! (1 ∷ 2 ∷ 4 ∷ 5 ∷ []) $
            enter ! C Λ function (vptr rb ro ∷ vint w64 i ∷ []) _ $
            alloc_all ! (λ l. pass_all ! refl ((tt, tt), ((tt, record { fits = fi }), tt)) $
            use3 𝓛 (later (some (λ (t : X × GName). given (seen li t) (‵ (own li t) ⊛ ‵ (flft κs.0 qs.0) ⊛ ‵ (tie li t))))) (lends d i li rb ro κs.0 qs.0 γ) $ await ! tt $ pick ! (λ t. learn ! (λ e. split3 ! $
            sets ! (bin ! (get ! refl) (size_lit ! (record { fits = tiny })) (record { fits = fmi })) refl (tt, record { fits = fmi }) $
            sets ! (is ! (addr ! (through ! refl (fld ! refl (stop !)))) (ap (vptr rb) (first_at (align (layout Y)) ro))) refl (tt, tt) $
            sets ! (bin ! (get ! refl) (get ! refl) tt) refl (tt, tt) $
            sets ! (addr ! (through ! refl (stop !))) refl (tt, tt) $
            returns ! (look_at ! 0 refl) $ free_all ! refl $ keep ! (1 ∷ 3 ∷ 0 ∷ 2 ∷ []) $ join ! $ by ! (exits li t e))))))

      meets : (𝓣 : Tables 𝓤 H) → Meets 𝓛 (ended Y (number N)).signature (WpFn 𝓤 H 𝓣.C 𝓣.Λ function) (closing 𝓛 (ended Y (number N)) held)
      meets 𝓣 =
          walk_Meets 𝓛 (ended Y (number N)) stayed (Goes-spent_ref 𝓛 3 (0 ∷ []) tt (plain (λ _. S)), (Goes-dropped 𝓛 3 (plain (λ _. usize)) yes (λ κs x f. refl), tt)) held
          (WpFn 𝓤 H 𝓣.C 𝓣.Λ function) (WpFn-mono 𝓤 H 𝓛.laws 𝓣 function)
          (walked 𝓛 (ended Y (number N)) stayed held (WpFn 𝓤 H 𝓣.C 𝓣.Λ function) (λ κs. (mut_vals, (uint_vals w64, tt))) (λ κs. (mut_Tells (named 0) κs.0 S, (uint_Tells w64, tt)))
          (λ κs qs bounds a g are. walk κs qs bounds a.0.ref_ptr.0 a.0.ref_ptr.1 a.0.ghost_name a.0.now a.1.0 𝓣.C 𝓣.Λ are.1.0.1))

pub at_spec : {M : Type 1} → stated.statement M
unfolding tables_of
at_spec 𝓤 𝓛 𝓜 𝓡 wired Y N laws fits =
    let A = 𝓛.A in
    let 𝓣 : Tables 𝓤 𝓛.H = tables_of 𝓤 𝓛.H 𝓜 (tables 𝓤 𝓛.H 𝓜 𝓡 𝓡.env) in
    entered 𝓤 𝓛.H (triple_of 𝓛 (ended Y (number N)).signature (closing 𝓛 (ended Y (number N)) (clauses Y (number N) 𝓛 𝓜.mem 𝓡.returns))) 𝓣.C 𝓣.Λ (#self (layouts (a_type ∷ a_number ∷ []) (Y, (number N, tt)))) (function Y N) (code.unfolded 𝓤 𝓛.H 𝓜 𝓡 wired (Y, (number N, tt)))
    (meets Y N laws 𝓛 𝓜.mem 𝓡.returns 𝓣)
