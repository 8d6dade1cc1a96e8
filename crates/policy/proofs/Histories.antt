-- The interface's laws give legal histories.
use Rattle.std.proofs.Common.{◌≡◌, ℕ, ◌+◌, ◌≤◌, true, false, eqb, ◌⊎◌, List, [], ◌∷◌, length, sym, refl, ap, ◌∙◌, subst, inl, inr, ⊎_elim, arith}
use Rattle.std.proofs.lemmas.Bool.{cases_Bool, eqb-true, eqb-false, false≢true}
use Rattle.std.proofs.lemmas.Bool.Decides.{nat_tests}
use Rattle.histories.specs.Rule.{tally, held}
use Rattle.histories.specs.Histories.{latest, LegalTurn, Legal, turn_hits, earned}
use Rattle.replacement.specs.Lines.{set_of}
use Rattle.replacement.specs.Policy.{Event, told, untold, emptied, found, state_after, touches_of, Laws}
use Rattle.policy.specs.Histories.{wiped, contents, scored, History, Histories}

legal_wiped : (w : ℕ) (ts : List ℕ) (cs : List (List ℕ)) → Legal w ts cs → Legal w ts (wiped cs)
legal_wiped w [] [] h = h
legal_wiped w [] (c ∷ cs) h = absurd h
legal_wiped w (t ∷ ts) [] h = absurd h
legal_wiped w (t ∷ ts) (c ∷ cs) h = (record { distinct = tt; small = omega arith; kept = λ y e. absurd (false≢true e) }, h.1)

earned_wiped : (ts : List ℕ) (cs : List (List ℕ)) → earned ts (wiped cs) ≡ earned ts cs
unfolding earned turn_hits
earned_wiped [] cs = refl
earned_wiped (t ∷ ts) [] = refl
earned_wiped (t ∷ ts) (c ∷ cs) = refl

latest_wiped : (cs : List (List ℕ)) → latest (wiped cs) ≡ []
latest_wiped [] = refl
latest_wiped (c ∷ cs) = refl

earned_none : earned [] [] ≡ 0
unfolding earned turn_hits
earned_none = refl

earned_more : (t : ℕ) (c : List ℕ) (ts : List ℕ) (cs : List (List ℕ)) → earned (t ∷ ts) (c ∷ cs) ≡ tally (held t (latest cs)) + earned ts cs
unfolding earned turn_hits
earned_more t c ts cs = refl

was_or_is : (x y : ℕ) (l : List ℕ) → (y ≡ x) ⊎ (held y l ≡ true) → held y (x ∷ l) ≡ true
was_or_is x y l (inl e) = grind (arith, nat_tests)
was_or_is x y l (inr h) = grind (arith, nat_tests)

still_held : (x y : ℕ) (l : List ℕ) → held y l ≡ true → held y (x ∷ l) ≡ true
still_held x y l h = was_or_is x y l (inr h)

module _ {P S : Type 0} {ready : P → Type 0} {state : P → S} {slog wide : S → ℕ} {holds : S → ℕ → List ℕ} {next : S → ℕ → S} {cleared : S → S} {Sound : S → Type 0}
    (laws : Laws ready state slog wide holds next cleared Sound) (q : S) (sound : Sound q) (none : (k : ℕ) → holds q k ≡ []) where
  abbrev after : List Event → S
  after es = state_after next cleared q es

  sounds : (es : List Event) → Sound (after es)
  sounds [] = sound
  sounds (told x ∷ es) = laws.stays (after es) x (sounds es)
  sounds (untold x ∷ es) = sounds es
  sounds (emptied ∷ es) = laws.clears (after es) (sounds es)

  shaped : (es : List Event) → (slog (after es) ≡ slog q) × (wide (after es) ≡ wide q)
  shaped [] = (refl, refl)
  shaped (told x ∷ es) = let a = laws.shape (after es) x in let b = shaped es in (a.0 ∙ b.0, a.1 ∙ b.1)
  shaped (untold x ∷ es) = shaped es
  shaped (emptied ∷ es) = let a = laws.reshape (after es) in let b = shaped es in (a.0 ∙ b.0, a.1 ∙ b.1)

  abbrev kept_in : ℕ → List Event → List (List ℕ)
  kept_in k es = contents slog wide holds next cleared q k es

  abbrev At : ℕ → List Event → Type 0
  At k es = History slog wide holds next cleared q k es

  -- a turn of set k, after which c is held there
  module _ (k x : ℕ) (es : List Event) (c : List ℕ) (rec : At k es) (here : k ≡ set_of (slog q) x) where
    place : set_of (slog (after es)) x ≡ k
    place = ap (λ z. set_of z x) (shaped es).0 ∙ sym here

    hit_is : held x (latest (kept_in k es)) ≡ found slog holds (after es) x
    hit_is = ap (held x) rec.holds_now ∙ ap (λ z. held x (holds (after es) z)) (sym place)

    earned_is : earned (x ∷ touches_of (slog q) k es) (c ∷ kept_in k es) ≡ tally (found slog holds (after es) x) + scored slog wide holds next cleared q k es
    earned_is = earned_more x c _ _ ∙ ap (λ b. tally b + earned (touches_of (slog q) k es) (kept_in k es)) hit_is ∙ ap (λ n. tally (found slog holds (after es) x) + n) rec.hits

    told_turn : c ≡ holds (next (after es) x) k → LegalTurn (wide q) x c (latest (kept_in k es))
    told_turn e = subst (λ d. LegalTurn (wide q) x d (latest (kept_in k es))) (sym e) (record {
      distinct = laws.apart (next (after es) x) k (sounds (told x ∷ es));
      small = subst (λ w. length (holds (next (after es) x) k) ≤ w) (shaped (told x ∷ es)).1 (laws.fits (next (after es) x) k (sounds (told x ∷ es)));
      kept = λ y h.
          let came = laws.only (after es) x y (sounds es) (subst (λ z. held y (holds (next (after es) x) z) ≡ true) (sym place) h) in
          subst (λ l. held y (x ∷ l) ≡ true) (sym rec.holds_now) (was_or_is x y (holds (after es) k) (subst (λ z. (y ≡ x) ⊎ (held y (holds (after es) z) ≡ true)) place came));
    })

    untold_turn : c ≡ holds (after es) k → LegalTurn (wide q) x c (latest (kept_in k es))
    untold_turn e = subst (λ d. LegalTurn (wide q) x d (latest (kept_in k es))) (sym e) (record {
      distinct = laws.apart (after es) k (sounds es);
      small = subst (λ w. length (holds (after es) k) ≤ w) (shaped es).1 (laws.fits (after es) k (sounds es));
      kept = λ y h. subst (λ l. held y (x ∷ l) ≡ true) (sym rec.holds_now) (still_held x y (holds (after es) k) h);
    })

  module _ (k x : ℕ) (es : List Event) (rec : At k es) where
    told_here : eqb k (set_of (slog q) x) ≡ true → At k (told x ∷ es)
    told_here t =
        let here : k ≡ set_of (slog q) x = eqb-true _ _ t in
        let c = holds (next (after es) x) k in
        record { legal = rw t (told_turn k x es c rec here refl, rec.legal); holds_now = rw t; hits = rw t (earned_is k x es c rec here) }

    untold_here : eqb k (set_of (slog q) x) ≡ true → At k (untold x ∷ es)
    untold_here t =
        let here : k ≡ set_of (slog q) x = eqb-true _ _ t in
        let c = holds (after es) k in
        record { legal = rw t (untold_turn k x es c rec here refl, rec.legal); holds_now = rw t; hits = rw t (earned_is k x es c rec here) }

    told_elsewhere : eqb k (set_of (slog q) x) ≡ false → At k (told x ∷ es)
    told_elsewhere f =
        let ne : k ≡ set_of (slog (after es)) x → ⊥ = λ e. eqb-false _ _ f (e ∙ ap (λ z. set_of z x) (shaped es).0) in
        record { legal = rw f rec.legal; holds_now = rw f (rec.holds_now ∙ sym (laws.others (after es) x k ne)); hits = rw f rec.hits }

    untold_elsewhere : eqb k (set_of (slog q) x) ≡ false → At k (untold x ∷ es)
    untold_elsewhere f = record { legal = rw f rec.legal; holds_now = rw f rec.holds_now; hits = rw f rec.hits }

  history : (k : ℕ) (es : List Event) → At k es
  history k [] = record { legal = tt; holds_now = sym (none k); hits = earned_none }
  history k (told x ∷ es) = ⊎_elim (told_here k x es (history k es)) (told_elsewhere k x es (history k es)) (cases_Bool (eqb k (set_of (slog q) x)))
  history k (untold x ∷ es) = ⊎_elim (untold_here k x es (history k es)) (untold_elsewhere k x es (history k es)) (cases_Bool (eqb k (set_of (slog q) x)))
  history k (emptied ∷ es) =
      let rec = history k es in
      record {
        legal = legal_wiped _ (touches_of (slog q) k es) _ rec.legal;
        holds_now = latest_wiped (kept_in k es) ∙ sym (laws.nothing (after es) k);
        hits = earned_wiped (touches_of (slog q) k es) _ ∙ rec.hits;
      }

pub histories : {P S : Type 0} {ready : P → Type 0} {state : P → S} {slog wide : S → ℕ} {holds : S → ℕ → List ℕ} {next : S → ℕ → S} {cleared : S → S} {Sound : S → Type 0}
    (laws : Laws ready state slog wide holds next cleared Sound) (q : S) → Sound q → Histories slog wide holds next cleared q
histories laws q sound = history laws _ (laws.clears q sound) (laws.nothing q)
