-- Lackey: how its lines go on, where they do not, and that a line is one record at most.
use Rattle.std.specs.Prelude.{◌≡◌, ℕ, ◌+◌, ◌-◌, ◌<◌, ◌≤◌, if◌then◌else◌, ◌⊎◌, List, [], ◌∷◌, ◌++◌, length, take, drop, ◌==◌, ◌≢◌, slice_index, slice_index_or, refl}
use Rattle.std.proofs.Common.{sym, ap, subst, ◌∙◌, inl, inr, ⊎_elim, append_assoc, append-nil, arith, length-append, length-drop, take-append-drop}
use Rattle.std.proofs.ByRecursion.{All-get_or}
use Rattle.std.proofs.lemmas.List.{take_all, length-take-le, drop_more, get_or-drop}
use Rattle.std.specs.Str.Parse.{AllDigits, digits_value}
use Rattle.std.specs.Char.{digit_value}
use Rattle.std.specs.List.{between, AllByRecursion}
use Rattle.geometry.specs.Lines.{Sized, Within}
use Rattle.geometry.specs.declared.refusal.Refusal.TheVariants.{UnknownKind, Misfit, Size, PastMemory}
use Rattle.notations.specs.Bytes.{Blank, Figures, Indent, Longest}
use Rattle.notations.specs.Grammar.{Reading, Begins, Refuses, Means, told, refused, One}
use Rattle.notations.specs.Lackey.{prefix, LackeyRecord, lackey, Unopened, Commented, Letter}
use Rattle.notations.specs.declared.line.Kind.{Kind}
use Rattle.notations.specs.declared.line.Kind.TheVariants.{Fetch, Load, Store, Modify}
use Rattle.notations.specs.Meanings.{Dies, misfits, unknown_kind, misfit, one_meaning}
use Rattle.notations.specs.Runs.{More, Some, Apart, some_in, some_out, more_done, more_end, Ends, same_run, digits_all, later_solid, zero_figures, zero_address, figures_of, first_and_rest}

-- how a line goes on after its kind
abbrev AtEnd : List ℕ → Type 0
AtEnd [] = Unit {0}
AtEnd (b ∷ bs) = ⊥

abbrev AtSize : List ℕ → Type 0
AtSize bs = Some 10 2 AtEnd bs

abbrev AtComma : List ℕ → Type 0
AtComma [] = ⊥
AtComma (b ∷ bs) = (b ≡ 44) × AtSize bs

abbrev AtAddress : List ℕ → Type 0
AtAddress bs = Some 16 15 AtComma bs

comma_apart : Apart (λ b. digit_value b < 16) AtComma
comma_apart b bs low k = let v : digit_value b ≡ 36 = ap digit_value k.0 in omega arith

end_apart : Apart (λ b. digit_value b < 10) AtEnd
end_apart b bs low k = k

after_prefix : (k : Kind) (rest : List ℕ) → drop 3 (prefix k ++ rest) ≡ rest
after_prefix Fetch rest = refl
after_prefix Load rest = refl
after_prefix Store rest = refl
after_prefix Modify rest = refl

long_prefix : (k : Kind) → length (prefix k) ≡ 3
long_prefix Fetch = refl
long_prefix Load = refl
long_prefix Store = refl
long_prefix Modify = refl

same_rest : (k l : Kind) (r s : List ℕ) → prefix k ++ r ≡ prefix l ++ s → r ≡ s
same_rest k l r s e = sym (after_prefix k r) ∙ ap (drop 3) e ∙ after_prefix l s

named : List ℕ → Kind
named line = if slice_index line 0 == 73 then Fetch else (if slice_index line 1 == 76 then Load else (if slice_index line 1 == 83 then Store else Modify))

named_prefix : (k : Kind) (rest : List ℕ) → named (prefix k ++ rest) ≡ k
unfolding named
named_prefix Fetch rest = refl
named_prefix Load rest = refl
named_prefix Store rest = refl
named_prefix Modify rest = refl

road : (k : Kind) (rest : List ℕ) (t : Reading) → LackeyRecord (prefix k ++ rest) t → AtAddress rest
road k rest t d =
    let sized : AtSize d.sized = subst AtSize (append-nil d.sized) (some_in 10 2 AtEnd d.sized [] d.counted.digits d.counted.some d.counted.few tt) in
    subst AtAddress (sym (same_rest k t.kind rest (t.digits ++ 44 ∷ d.sized) d.shape)) (some_in 16 15 AtComma t.digits (44 ∷ d.sized) d.figures.digits d.figures.some d.figures.few (refl, sized))

after_digits : (k : Kind) (ds : List ℕ) (m : ℕ) → AllDigits 16 ds → 0 < length ds → 16 ≡ length ds + m → (rest : List ℕ) (t : Reading) → LackeyRecord (prefix k ++ (ds ++ rest)) t → More 16 m AtComma rest
after_digits k ds m digits any few rest t d = some_out 16 15 m AtComma comma_apart ds rest digits any (omega arith) (road k (ds ++ rest) t d)

after_comma : (k : Kind) (ds : List ℕ) → Figures 16 16 ds → (rest : List ℕ) (t : Reading) → LackeyRecord (prefix k ++ (ds ++ 44 ∷ rest)) t → AtSize rest
after_comma k ds figures rest t d =
    let m = 16 - length ds in
    let few = figures.few in
    (more_done 16 m AtComma 44 rest (λ room. omega arith) (after_digits k ds m figures.digits figures.some (omega arith) (44 ∷ rest) t d)).1

after_size : (k : Kind) (ds zs : List ℕ) (m : ℕ) → Figures 16 16 ds → AllDigits 10 zs → 0 < length zs → 3 ≡ length zs + m → (rest : List ℕ) (t : Reading) → LackeyRecord (prefix k ++ (ds ++ 44 ∷ (zs ++ rest))) t → More 10 m AtEnd rest
after_size k ds zs m figures digits any few rest t d = some_out 10 2 m AtEnd end_apart zs rest digits any (omega arith) (after_comma k ds figures (zs ++ rest) t d)

-- bytes that a record begins with
begins : (p more : List ℕ) (k : Kind) (ds zs : List ℕ) → p ++ more ≡ prefix k ++ (ds ++ 44 ∷ zs) → Figures 16 16 ds → Figures 10 3 zs → Begins lackey p
unfolding lackey
begins p more k ds zs shape figures counted =
    let t : Reading = record { kind = k; address = digits_value 16 ds; size = digits_value 10 zs; digits = ds; column = 4 } in
    let d : LackeyRecord (p ++ more) t = record { sized = zs; shape = shape; figures = figures; counted = counted; address = refl; size = refl; column = refl } in
    (more, t, d)

zero_size : Figures 10 3 (48 ∷ [])
zero_size = zero_figures 10 3 (omega arith) (omega arith)

-- three bytes and more do not lead to a kind
long_lead : (p : List ℕ) → 2 ≤ length p → lackey.lead p → ⊥
unfolding lackey
long_lead p long lead = ⊎_elim (λ e. let n = ap length e in omega arith) (λ e. let n = ap length e in omega arith) lead

fetch_lead : lackey.lead (73 ∷ []) → ⊥
unfolding lackey
fetch_lead lead = ⊎_elim (λ e. let n = ap length e in omega arith) (λ e. let n = ap (λ l. slice_index l 0) e in omega arith) lead

-- a line that a kind opens is not skipped
pub opened_told : (k : Kind) (rest : List ℕ) → lackey.skips (prefix k ++ rest) → ⊥
unfolding lackey
opened_told Fetch rest h = ⊎_elim (λ b. later_solid 73 (omega arith) b.0) (λ e. let n = ap (λ l. slice_index l 0) e.1 in omega arith) h
opened_told Load rest h = ⊎_elim (λ b. later_solid 76 (omega arith) b.1.0) (λ e. let n = ap (λ l. slice_index l 0) e.1 in omega arith) h
opened_told Store rest h = ⊎_elim (λ b. later_solid 83 (omega arith) b.1.0) (λ e. let n = ap (λ l. slice_index l 0) e.1 in omega arith) h
opened_told Modify rest h = ⊎_elim (λ b. later_solid 77 (omega arith) b.1.0) (λ e. let n = ap (λ l. slice_index l 0) e.1 in omega arith) h

dies_digit : (radix n : ℕ) (K : List ℕ → Type 0) (r : List ℕ) → (0 < length r → radix ≤ digit_value (slice_index r 0)) → Dies (Some radix n K) r
dies_digit radix n K [] stops = λ k. k
dies_digit radix n K (b ∷ bs) stops = λ rest k. let low = k.0 in let high = stops (omega arith) in omega arith

pub no_digits : (k : Kind) (rest : List ℕ) (n v : ℕ) → Longest 16 16 rest n v → n ≡ 0 → Means lackey (prefix k ++ rest) (refused Misfit 4)
unfolding lackey
no_digits k rest n v h none =
    let stops : 0 < length rest → 16 ≤ digit_value (slice_index rest 0) = λ l. subst (λ j. j < length rest → j < 16 → 16 ≤ digit_value (slice_index rest j)) none h.stops l (omega arith) in
    let long = long_prefix k in (
      opened_told k rest,
      misfit lackey (prefix k ++ rest) (prefix k) rest 3 refl long
          (misfits lackey AtAddress (prefix k) rest (begins (prefix k) (48 ∷ (44 ∷ (48 ∷ []))) k (48 ∷ []) (48 ∷ []) refl zero_address zero_size) (road k) (dies_digit 16 15 AtComma rest stops))
          (long_lead (prefix k) (omega arith)),
    )

dies_comma : (m : ℕ) (r : List ℕ) → (0 < length r → 0 < m → 16 ≤ digit_value (slice_index r 0)) → (0 < length r → slice_index r 0 ≢ 44) → Dies (More 16 m AtComma) r
dies_comma m [] stops other = λ k. more_end 16 m AtComma k
dies_comma m (b ∷ bs) stops other = λ rest k. other (omega arith) (more_done 16 m AtComma b rest (stops (omega arith)) k).0

pub no_comma : (k : Kind) (rest end : List ℕ) (n v : ℕ) → Longest 16 16 rest n v → 0 < n → end ≡ drop n rest → (0 < length end → slice_index end 0 ≢ 44) → Means lackey (prefix k ++ rest) (refused Misfit (4 + n))
unfolding lackey
no_comma k rest end n v h any end_is other =
    let ds = take n rest in
    let m = 16 - n in
    let few = h.few in
    let long = length-take-le n rest h.within in
    let front = long_prefix k in
    let all : length (prefix k ++ ds) ≡ 3 + n = simp length-append (omega arith) in
    let shape : prefix k ++ rest ≡ (prefix k ++ ds) ++ end = ap (λ x. prefix k ++ x) (sym (take-append-drop n rest) ∙ ap (λ x. ds ++ x) (sym end_is)) ∙ sym (append_assoc (prefix k) ds end) in
    let there : slice_index_or end 0 0 ≡ slice_index_or rest n 0 = ap (λ x. slice_index x 0) end_is ∙ get_or-drop n rest 0 0 ∙ (let z : n + 0 ≡ n = omega arith in ap (λ j. slice_index rest j) z) in
    let left : length end ≡ length rest - n = ap length end_is ∙ length-drop n rest in
    let stops : 0 < length end → 0 < m → 16 ≤ digit_value (slice_index end 0) = λ l room. subst (λ b. 16 ≤ digit_value b) (sym there) (h.stops (omega arith) (omega arith)) in
    let column : 3 + n + 1 ≡ 4 + n = omega arith in (
      opened_told k rest,
      subst (Refuses lackey (prefix k ++ rest) Misfit) column
          (misfit lackey (prefix k ++ rest) (prefix k ++ ds) end (3 + n) shape all
          (misfits lackey (More 16 m AtComma) (prefix k ++ ds) end (begins (prefix k ++ ds) (44 ∷ (48 ∷ [])) k ds (48 ∷ []) (append_assoc (prefix k) ds (44 ∷ (48 ∷ []))) (figures_of 16 16 rest n v h any) zero_size)
          (λ x t d. after_digits k ds m h.digits (omega arith) (omega arith) x t (subst (λ l. LackeyRecord l t) (append_assoc (prefix k) ds x) d))
          (dies_comma m end stops other))
          (long_lead (prefix k ++ ds) (omega arith))),
    )

-- after the comma: rest is the digits, the comma, sized
pub record SizedPart (rest sized : List ℕ) (n v m w : ℕ) : Type 0 where
  pub digits : Longest 16 16 rest n v
  pub any : 0 < n
  pub comma : rest ≡ take n rest ++ 44 ∷ sized
  pub size : Longest 10 3 sized m w

-- the parts as the reader cuts them
pub sized_part : {rest end : List ℕ} {n v m w : ℕ} → Longest 16 16 rest n v → 0 < n → end ≡ drop n rest → 1 ≤ length end → slice_index end 0 ≡ 44 → Longest 10 3 (between 1 (length end) end) m w → SizedPart rest (between 1 (length end) end) n v m w
sized_part {rest} {end} {n} {v} {m} {w} digits any end_is some comma size = record {
  digits = digits;
  any = any;
  comma = sym (take-append-drop n rest) ∙ ap (λ x. take n rest ++ x) (sym end_is ∙ first_and_rest end some ∙ ap (λ b. b ∷ between 1 (length end) end) comma);
  size = size;
}

no_size : (k : Kind) (rest sized : List ℕ) (n v m w : ℕ) → SizedPart rest sized n v m w → m ≡ 0 → Refuses lackey (prefix k ++ rest) Misfit (4 + n + 1 + m)
unfolding lackey
no_size k rest sized n v m w s none =
    let ds = take n rest in
    let p = prefix k ++ (ds ++ 44 ∷ []) in
    let figures = figures_of 16 16 rest n v s.digits s.any in
    let joined : (x : List ℕ) → p ++ x ≡ prefix k ++ (ds ++ 44 ∷ x) = λ x. append_assoc (prefix k) (ds ++ 44 ∷ []) x ∙ ap (λ y. prefix k ++ y) (append_assoc ds (44 ∷ []) x) in
    let shape : prefix k ++ rest ≡ p ++ sized = ap (λ x. prefix k ++ x) s.comma ∙ sym (joined sized) in
    let stops : 0 < length sized → 10 ≤ digit_value (slice_index sized 0) = λ l. subst (λ j. j < length sized → j < 3 → 10 ≤ digit_value (slice_index sized j)) none s.size.stops l (omega arith) in
    let long = length-take-le n rest s.digits.within in
    let front = long_prefix k in
    let all : length p ≡ 4 + n = simp length-append (omega arith) in
    let column : 4 + n + 1 ≡ 4 + n + 1 + m = omega arith in
    subst (Refuses lackey (prefix k ++ rest) Misfit) column
    (misfit lackey (prefix k ++ rest) p sized (4 + n) shape all
    (misfits lackey AtSize p sized (begins p (48 ∷ []) k ds (48 ∷ []) (joined (48 ∷ [])) figures zero_size)
    (λ x t d. after_comma k ds figures x t (subst (λ l. LackeyRecord l t) (joined x) d))
    (dies_digit 10 2 AtEnd sized stops))
    (long_lead p (omega arith)))

no_end : (k : Kind) (rest sized : List ℕ) (n v m w : ℕ) → SizedPart rest sized n v m w → 0 < m → m < length sized → Refuses lackey (prefix k ++ rest) Misfit (4 + n + 1 + m)
unfolding lackey
no_end k rest sized n v m w s some inside =
    let ds = take n rest in
    let zs = take m sized in
    let b = slice_index_or sized m 0 in
    let r = drop (m + 1) sized in
    let p = prefix k ++ (ds ++ 44 ∷ zs) in
    let j = 3 - m in
    let few = s.size.few in
    let figures = figures_of 16 16 rest n v s.digits s.any in
    let counted = figures_of 10 3 sized m w s.size some in
    let joined : (x : List ℕ) → p ++ x ≡ prefix k ++ (ds ++ 44 ∷ (zs ++ x)) = λ x. append_assoc (prefix k) (ds ++ 44 ∷ zs) x ∙ ap (λ y. prefix k ++ y) (append_assoc ds (44 ∷ zs) x) in
    let cut : sized ≡ zs ++ b ∷ r = sym (take-append-drop m sized) ∙ ap (λ x. zs ++ x) (drop_more sized m 0 inside) in
    let shape : prefix k ++ rest ≡ p ++ b ∷ r = ap (λ x. prefix k ++ x) (s.comma ∙ ap (λ x. ds ++ 44 ∷ x) cut) ∙ sym (joined (b ∷ r)) in
    let long = length-take-le n rest s.digits.within in
    let short = length-take-le m sized s.size.within in
    let front = long_prefix k in
    let all : length p ≡ 4 + n + m = simp length-append (omega arith) in
    let column : 4 + n + m + 1 ≡ 4 + n + 1 + m = omega arith in
    subst (Refuses lackey (prefix k ++ rest) Misfit) column
    (misfit lackey (prefix k ++ rest) p (b ∷ r) (4 + n + m) shape all
    (misfits lackey (More 10 j AtEnd) p (b ∷ r) (begins p [] k ds zs (append-nil p) figures counted)
    (λ x t d. after_size k ds zs j figures counted.digits counted.some (omega arith) x t (subst (λ l. LackeyRecord l t) (joined x) d))
    (λ x q. more_done 10 j AtEnd b x (λ room. s.size.stops inside (omega arith)) q))
    (long_lead p (omega arith)))

pub size_misfit : {rest sized : List ℕ} {n v m w : ℕ} (k : Kind) → SizedPart rest sized n v m w → (m ≡ 0) ⊎ ((m ≢ 0) × (m < length sized)) → Means lackey (prefix k ++ rest) (refused Misfit (4 + n + 1 + m))
size_misfit {rest} {sized} {n} {v} {m} {w} k s bad =
    (opened_told k rest, ⊎_elim (no_size k rest sized n v m w s) (λ q. no_end k rest sized n v m w s (let z = q.0 in omega arith) q.1) bad)

record_is : {rest sized : List ℕ} {n v m w : ℕ} (k : Kind) → SizedPart rest sized n v m w → 0 < m → length sized ≤ m → lackey.records (prefix k ++ rest) (record { kind = k; address = v; size = w; digits = take n rest; column = 4 })
unfolding lackey
record_is {rest} {sized} {n} {v} {m} {w} k s some whole =
    let end : take m sized ≡ sized = take_all m sized whole in
    record {
      sized = sized;
      shape = ap (λ x. prefix k ++ x) s.comma;
      figures = figures_of 16 16 rest n v s.digits s.any;
      counted = subst (Figures 10 3) end (figures_of 10 3 sized m w s.size some);
      address = s.digits.is;
      size = s.size.is ∙ ap (digits_value 10) end;
      column = refl;
    }

pub wrong_size : {rest sized : List ℕ} {n v m w : ℕ} (k : Kind) → SizedPart rest sized n v m w → 0 < m → length sized ≤ m → (Sized w → ⊥) → Means lackey (prefix k ++ rest) (refused Size (4 + n + 1))
wrong_size {rest} {sized} {n} {v} {m} {w} k s some whole unsized =
    let long = length-take-le n rest s.digits.within in
    let column : 4 + n + 1 ≡ 4 + length (take n rest) + 1 = omega arith in
    (opened_told k rest, inr (inr (inl (refl, (_, record_is k s some whole, unsized, column)))))

pub past_memory : {rest sized : List ℕ} {n v m w : ℕ} (k : Kind) → SizedPart rest sized n v m w → 0 < m → length sized ≤ m → Sized w → (Within v w → ⊥) → Means lackey (prefix k ++ rest) (refused PastMemory 4)
past_memory k s some whole sized past = (opened_told k _, inr (inr (inr (refl, (_, record_is k s some whole, sized, past, refl)))))

pub a_record : {rest sized ds : List ℕ} {n v m w : ℕ} (k : Kind) → SizedPart rest sized n v m w → 0 < m → length sized ≤ m → ds ≡ take n rest → Sized w → Within v w → Means lackey (prefix k ++ rest) (told (record { kind = k; address = v; size = w; digits = ds; column = 4 }))
a_record {rest} {sized} {ds} {n} {v} {m} {w} k s some whole is sized_is within =
    (opened_told k rest, subst (λ d. lackey.records (prefix k ++ rest) (record { kind = k; address = v; size = w; digits = d; column = 4 })) (sym is) (record_is k s some whole), sized_is, within)

one_record : (line : List ℕ) (t u : Reading) → LackeyRecord line t → LackeyRecord line u → t ≡ u
one_record line t u d e =
    let same = sym d.shape ∙ e.shape in
    let kinds : t.kind ≡ u.kind = sym (named_prefix t.kind _) ∙ ap named same ∙ named_prefix u.kind _ in
    let rests = same_rest t.kind u.kind (t.digits ++ 44 ∷ d.sized) (u.digits ++ 44 ∷ e.sized) same in
    let comma : Ends (λ b. digit_value b < 16) (44 ∷ []) = λ low. omega arith in
    let both = same_run (λ b. digit_value b < 16) t.digits u.digits (44 ∷ d.sized) (44 ∷ e.sized) (digits_all 16 t.digits d.figures.digits) (digits_all 16 u.digits e.figures.digits) comma comma rests in
    let tails : d.sized ≡ e.sized = ap (drop 1) both.1 in
    let addresses : t.address ≡ u.address = d.address ∙ ap (digits_value 16) both.0 ∙ sym e.address in
    let sizes : t.size ≡ u.size = d.size ∙ ap (digits_value 10) tails ∙ sym e.size in
    let columns : t.column ≡ u.column = d.column ∙ sym e.column in
    λ i. record { kind = kinds i; address = addresses i; size = sizes i; digits = both.0 i; column = columns i }

pub lackey_one : One lackey
unfolding lackey
lackey_one = one_meaning lackey one_record

-- Lines that no kind opens.
abbrev AtSpace : List ℕ → Type 0
AtSpace [] = ⊥
AtSpace (b ∷ bs) = b ≡ 32

abbrev AtSecond : List ℕ → Type 0
AtSecond [] = ⊥
AtSecond (b ∷ bs) = (b ≡ 32) × AtSpace bs

abbrev AtLetter : List ℕ → Type 0
AtLetter [] = ⊥
AtLetter (b ∷ bs) = Letter b × AtSpace bs

abbrev AtKind : List ℕ → Type 0
AtKind [] = ⊥
AtKind (b ∷ bs) = ((b ≡ 73) × AtSecond bs) ⊎ ((b ≡ 32) × AtLetter bs)

at_prefix : (k : Kind) (rest : List ℕ) → AtKind (prefix k ++ rest)
at_prefix Fetch rest = inl (refl, (refl, refl))
at_prefix Load rest = inr (refl, (inl refl, refl))
at_prefix Store rest = inr (refl, (inr (inl refl), refl))
at_prefix Modify rest = inr (refl, (inr (inr refl), refl))

at_kind : (line : List ℕ) (t : Reading) → LackeyRecord line t → AtKind line
at_kind line t d = subst AtKind (sym d.shape) (at_prefix t.kind _)

after_I : (rest : List ℕ) (t : Reading) → LackeyRecord (73 ∷ rest) t → AtSecond rest
after_I rest t d = ⊎_elim (λ w. w.1) (λ w. let z = w.0 in absurd (omega arith)) (at_kind (73 ∷ rest) t d)

after_space : (rest : List ℕ) (t : Reading) → LackeyRecord (32 ∷ rest) t → AtLetter rest
after_space rest t d = ⊎_elim (λ w. let z = w.0 in absurd (omega arith)) (λ w. w.1) (at_kind (32 ∷ rest) t d)

dies_space : (bs : List ℕ) → ((rest : List ℕ) → bs ≢ 32 ∷ rest) → Dies AtSpace bs
dies_space [] other = λ k. k
dies_space (b ∷ bs) other = λ rest e. other bs (ap (λ x. x ∷ bs) e)

pub fault_third : (line bs : List ℕ) → line ≡ 73 ∷ (32 ∷ bs) → Unopened line → Refuses lackey line Misfit 3
unfolding lackey
fault_third line bs e shut =
    misfit lackey line (73 ∷ (32 ∷ [])) bs 2 e refl
    (misfits lackey AtSpace (73 ∷ (32 ∷ [])) bs (begins (73 ∷ (32 ∷ [])) (32 ∷ (48 ∷ (44 ∷ (48 ∷ [])))) Fetch (48 ∷ []) (48 ∷ []) refl zero_address zero_size) (λ rest t d. (after_I (32 ∷ rest) t d).1)
    (dies_space bs (λ rest f. shut Fetch rest (e ∙ ap (λ x. 73 ∷ (32 ∷ x)) f))))
    (long_lead (73 ∷ (32 ∷ [])) (omega arith))

dies_second : (bs : List ℕ) → ((rest : List ℕ) → bs ≢ 32 ∷ rest) → Dies AtSecond bs
dies_second [] other = λ k. k
dies_second (b ∷ bs) other = λ rest k. other bs (ap (λ x. x ∷ bs) k.0)

pub fault_second : (line bs : List ℕ) → line ≡ 73 ∷ bs → ((rest : List ℕ) → bs ≢ 32 ∷ rest) → Refuses lackey line Misfit 2
unfolding lackey
fault_second line bs e other =
    misfit lackey line (73 ∷ []) bs 1 e refl
    (misfits lackey AtSecond (73 ∷ []) bs (begins (73 ∷ []) (32 ∷ (32 ∷ (48 ∷ (44 ∷ (48 ∷ []))))) Fetch (48 ∷ []) (48 ∷ []) refl zero_address zero_size) after_I (dies_second bs other))
    fetch_lead

-- the kind of a letter
lettered : (b : ℕ) → Letter b → (k : Kind) × ((rest : List ℕ) → 32 ∷ (b ∷ (32 ∷ rest)) ≡ prefix k ++ rest)
lettered b l = ⊎_elim (λ e. (Load, λ rest. ap (λ x. 32 ∷ (x ∷ (32 ∷ rest))) e)) (⊎_elim (λ e. (Store, λ rest. ap (λ x. 32 ∷ (x ∷ (32 ∷ rest))) e)) (λ e. (Modify, λ rest. ap (λ x. 32 ∷ (x ∷ (32 ∷ rest))) e))) l

pub fault_letter : (line : List ℕ) (b : ℕ) (bs : List ℕ) → line ≡ 32 ∷ (b ∷ bs) → Letter b → Unopened line → Refuses lackey line Misfit 3
unfolding lackey
fault_letter line b bs e l shut =
    let k = lettered b l in
    misfit lackey line (32 ∷ (b ∷ [])) bs 2 e refl
    (misfits lackey AtSpace (32 ∷ (b ∷ [])) bs (begins (32 ∷ (b ∷ [])) (32 ∷ (48 ∷ (44 ∷ (48 ∷ [])))) k.0 (48 ∷ []) (48 ∷ []) (k.1 (48 ∷ (44 ∷ (48 ∷ [])))) zero_address zero_size) (λ rest t d. (after_space (b ∷ rest) t d).1)
    (dies_space bs (λ rest f. shut k.0 rest (e ∙ ap (λ x. 32 ∷ (b ∷ x)) f ∙ k.1 rest))))
    (long_lead (32 ∷ (b ∷ [])) (omega arith))

pub fault_kind : (line : List ℕ) (b : ℕ) (bs : List ℕ) → line ≡ 32 ∷ (b ∷ bs) → (Letter b → ⊥) → Refuses lackey line UnknownKind 2
unfolding lackey
fault_kind line b bs e other =
    unknown_kind lackey line (32 ∷ []) (b ∷ bs) 1 e refl
    (misfits lackey AtLetter (32 ∷ []) (b ∷ bs) (begins (32 ∷ []) (76 ∷ (32 ∷ (48 ∷ (44 ∷ (48 ∷ []))))) Load (48 ∷ []) (48 ∷ []) refl zero_address zero_size) after_space (λ rest k. other k.0))
    (inr refl)

pub fault_first : (line : List ℕ) → (AllByRecursion Blank line → ⊥) → (0 < length line → slice_index line 0 ≢ 73) → (1 < length line → slice_index line 0 ≢ 32) → Refuses lackey line UnknownKind 1
unfolding lackey
fault_first [] solid not_I not_space = absurd (solid tt)
fault_first (b ∷ bs) solid not_I not_space =
    unknown_kind lackey (b ∷ bs) [] (b ∷ bs) 0 refl refl
    (misfits lackey AtKind [] (b ∷ bs) (begins [] (73 ∷ (32 ∷ (32 ∷ (48 ∷ (44 ∷ (48 ∷ [])))))) Fetch (48 ∷ []) (48 ∷ []) refl zero_address zero_size) at_kind (λ rest k. ⊎_elim (λ w. not_I (omega arith) w.0) (λ w. not_space (longer bs solid w.0) w.0) k))
    (inl refl)
  where
    longer : (bs : List ℕ) → (AllByRecursion Blank (b ∷ bs) → ⊥) → b ≡ 32 → 1 < length (b ∷ bs)
    longer [] solid e = absurd (solid (inl e, tt))
    longer (x ∷ bs) solid e = omega arith

-- the same, by places
two : (line : List ℕ) → 1 < length line → line ≡ slice_index line 0 ∷ (slice_index line 1 ∷ drop 2 line)
two [] h = absurd (omega arith)
two (a ∷ []) h = absurd (omega arith)
two (a ∷ b ∷ bs) h = refl

pub third_misfits : (line : List ℕ) → 1 < length line → slice_index line 0 ≡ 73 → slice_index line 1 ≡ 32 → Unopened line → Refuses lackey line Misfit 3
third_misfits line long a b shut = fault_third line (drop 2 line) (two line long ∙ (λ i. a i ∷ (b i ∷ drop 2 line))) shut

pub second_misfits : (line : List ℕ) → 0 < length line → slice_index line 0 ≡ 73 → (1 < length line → slice_index line 1 ≢ 32) → Refuses lackey line Misfit 2
second_misfits [] some a other = absurd (omega arith)
second_misfits (x ∷ []) some a other = fault_second (x ∷ []) [] (ap (λ y. y ∷ []) a) (λ rest e. let n = ap length e in omega arith)
second_misfits (x ∷ y ∷ bs) some a other = fault_second (x ∷ y ∷ bs) (y ∷ bs) (ap (λ z. z ∷ (y ∷ bs)) a) (λ rest e. let n = ap (λ l. slice_index l 0) e in other (omega arith) (omega arith))

pub letter_misfits : (line : List ℕ) → 1 < length line → slice_index line 0 ≡ 32 → Letter (slice_index line 1) → Unopened line → Refuses lackey line Misfit 3
letter_misfits line long a l shut = fault_letter line (slice_index line 1) (drop 2 line) (two line long ∙ (λ i. a i ∷ (slice_index line 1 ∷ drop 2 line))) l shut

pub letter_unknown : (line : List ℕ) → 1 < length line → slice_index line 0 ≡ 32 → (Letter (slice_index line 1) → ⊥) → Refuses lackey line UnknownKind 2
letter_unknown line long a other = fault_kind line (slice_index line 1) (drop 2 line) (two line long ∙ (λ i. a i ∷ (slice_index line 1 ∷ drop 2 line))) other

-- a blank line is skipped; one that is neither blank nor a comment is not
pub blank_skips : (line : List ℕ) (n : ℕ) → Indent line n → n ≡ length line → lackey.skips line
unfolding lackey
blank_skips line n h e = inl (subst (AllByRecursion Blank) (take_all n line (omega arith)) h.blanks)

pub comment_skips : (line : List ℕ) → Commented line → lackey.skips line
unfolding lackey
comment_skips line h = inr h

pub solid_line : (line : List ℕ) (n : ℕ) → Indent line n → (n ≢ length line) → AllByRecursion Blank line → ⊥
solid_line line n h short blank = let within = h.within in let low : n < length line = omega arith in h.stops low (All-get_or Blank line n 0 low blank)

pub told_line : (line : List ℕ) → (AllByRecursion Blank line → ⊥) → (Commented line → ⊥) → lackey.skips line → ⊥
unfolding lackey
told_line line solid plain h = ⊎_elim solid plain h
