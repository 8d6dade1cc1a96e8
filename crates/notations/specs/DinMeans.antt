-- din: how its lines go on, where they do not, and that a line is one record at most.
use Rattle.std.specs.Prelude.{◌≡◌, ℕ, ◌+◌, ◌-◌, ◌^◌, ◌<◌, ◌≤◌, if◌then◌else◌, ◌⊎◌, List, [], ◌∷◌, ◌++◌, length, take, drop, Some as Just, None, Option, ◌==◌, ◌≢◌, slice_index, slice_index_or, refl}
use Rattle.std.proofs.Common.{sym, ap, subst, ◌∙◌, inl, inr, ⊎_elim, append_assoc, arith, length-append, length-drop, take-append-drop}
use Rattle.std.proofs.lemmas.List.{take_all, length-take-le, length_push, drop_all, drop_more, take_rest, get_or-drop}
use Rattle.std.proofs.lemmas.Bool.{cases_lt}
use Rattle.std.specs.Str.Parse.{AllDigits, digits_value}
use Rattle.std.specs.Char.{digit_value}
use Rattle.std.specs.List.{between, AllByRecursion}
use Rattle.geometry.specs.declared.refusal.Refusal.TheVariants.{UnknownKind, Misfit}
use Rattle.notations.specs.Bytes.{Blank, Figures, Stops, Indent, Longest}
use Rattle.notations.specs.Din.{label, DinRecord, din}
use Rattle.notations.specs.Grammar.{Reading, Begins, Misfits, Refuses, Means, told, refused, One}
use Rattle.notations.specs.declared.line.Kind.{Kind}
use Rattle.notations.specs.declared.line.Kind.TheVariants.{Fetch, Load, Store, Modify}
use Rattle.notations.specs.Meanings.{Dies, misfits, unknown_kind, misfit, one_meaning}
use Rattle.notations.specs.Runs.{Blanks, More, Some, Apart, blanks_in, blanks_out, blanks_done, some_in, some_out, more_done, Ends, same_run, digits_all, all_here, digit_solid, cells, zero_address, figures_of, first_and_rest}

abbrev pub IsLabel : ℕ → Type 0
IsLabel b = (b ≡ 48) ⊎ ((b ≡ 49) ⊎ (b ≡ 50))

abbrev AtDigits : List ℕ → Type 0
AtDigits bs = Some 16 15 Stops bs

abbrev AtGap : List ℕ → Type 0
AtGap [] = ⊥
AtGap (b ∷ bs) = Blank b × Blanks AtDigits bs

abbrev AtLabel : List ℕ → Type 0
AtLabel [] = ⊥
AtLabel (b ∷ bs) = IsLabel b × AtGap bs

label_solid : (b : ℕ) → IsLabel b → Blank b → ⊥
label_solid b l k = grind arith

stops_apart : Apart (λ b. digit_value b < 16) Stops
stops_apart b bs low blank = digit_solid 16 b (omega arith) low blank

digits_apart : Apart Blank AtDigits
digits_apart b bs blank k = digit_solid 16 b (omega arith) k.0 blank

label_apart : Apart Blank AtLabel
label_apart b bs blank k = label_solid b k.0 blank

pub is_label : (k : Kind) (m : ℕ) → label k ≡ Just m → IsLabel m
is_label Load m e = inl (cc)
is_label Store m e = inr (inl (cc))
is_label Fetch m e = inr (inr (cc))
is_label Modify m e = absurd (cc)

gap_in : (gap r : List ℕ) → AllByRecursion Blank gap → 0 < length gap → AtDigits r → AtGap (gap ++ r)
gap_in [] r h some k = absurd (omega arith)
gap_in (g ∷ gap) r h some k = (h.0, blanks_in AtDigits gap r h.1 k)

gap_out : (gap r : List ℕ) → AllByRecursion Blank gap → 0 < length gap → AtGap (gap ++ r) → Blanks AtDigits r
gap_out [] r h some k = absurd (omega arith)
gap_out (g ∷ gap) r h some k = blanks_out AtDigits digits_apart gap r h.1 k.1

road : (line : List ℕ) (t : Reading) → DinRecord line t → Blanks AtLabel line
road line t d =
    subst (Blanks AtLabel) (sym d.shape)
    (blanks_in AtLabel d.indent _ d.indented (is_label t.kind d.mark d.labelled, gap_in d.gap _ d.apart d.some (some_in 16 15 Stops t.digits d.rest d.figures.digits d.figures.some d.figures.few d.stops)))

-- how a record goes on after its indent, its label, its gap, its digits
after_indent : (indent : List ℕ) → AllByRecursion Blank indent → (rest : List ℕ) (t : Reading) → DinRecord (indent ++ rest) t → Blanks AtLabel rest
after_indent indent h rest t d = blanks_out AtLabel label_apart indent rest h (road (indent ++ rest) t d)

after_label : (indent : List ℕ) (mark : ℕ) → AllByRecursion Blank indent → IsLabel mark → (rest : List ℕ) (t : Reading) → DinRecord (indent ++ mark ∷ rest) t → AtGap rest
after_label indent mark h l rest t d = (blanks_done AtLabel mark rest (label_solid mark l) (after_indent indent h (mark ∷ rest) t d)).1

after_gap : (indent : List ℕ) (mark : ℕ) (gap : List ℕ) → AllByRecursion Blank indent → IsLabel mark → AllByRecursion Blank gap → 0 < length gap → (rest : List ℕ) (t : Reading) → DinRecord (indent ++ mark ∷ (gap ++ rest)) t → Blanks AtDigits rest
after_gap indent mark gap h l k some rest t d = gap_out gap rest k some (after_label indent mark h l (gap ++ rest) t d)

ends_digits : (ds rest : List ℕ) → AllDigits 16 ds → 0 < length ds → Ends Blank (ds ++ rest)
ends_digits [] rest h some = absurd (omega arith)
ends_digits (d ∷ ds) rest h some = digit_solid 16 d (omega arith) h.0

digits_first : (ds rest : List ℕ) → AllDigits 16 ds → 0 < length ds → Blanks AtDigits (ds ++ rest) → AtDigits (ds ++ rest)
digits_first [] rest h some k = absurd (omega arith)
digits_first (d ∷ ds) rest h some k = blanks_done AtDigits d (ds ++ rest) (digit_solid 16 d (omega arith) h.0) k

after_digits : (indent : List ℕ) (mark : ℕ) (gap ds : List ℕ) (m : ℕ) → AllByRecursion Blank indent → IsLabel mark → AllByRecursion Blank gap → 0 < length gap → AllDigits 16 ds → 0 < length ds → 16 ≡ length ds + m → (rest : List ℕ) (t : Reading) → DinRecord (indent ++ mark ∷ (gap ++ (ds ++ rest))) t → More 16 m Stops rest
after_digits indent mark gap ds m h l k some digits any few rest t d =
    some_out 16 15 m Stops stops_apart ds rest digits any (omega arith) (digits_first ds rest digits any (after_gap indent mark gap h l k some (ds ++ rest) t d))

-- the kind of a label
kind_of : ℕ → Kind
kind_of m = if m == 48 then Load else (if m == 49 then Store else Fetch)

label_of : (m : ℕ) → IsLabel m → label (kind_of m) ≡ Just m
unfolding kind_of
label_of m l = ⊎_elim (λ e. subst (λ n. label (kind_of n) ≡ Just n) (sym e) refl) (⊎_elim (λ e. subst (λ n. label (kind_of n) ≡ Just n) (sym e) refl) (λ e. subst (λ n. label (kind_of n) ≡ Just n) (sym e) refl)) l

-- bytes that a record begins with
begins : (p more indent : List ℕ) (mark : ℕ) (gap ds : List ℕ) → p ++ more ≡ indent ++ mark ∷ (gap ++ (ds ++ [])) → AllByRecursion Blank indent → IsLabel mark → AllByRecursion Blank gap → 0 < length gap → Figures 16 16 ds → Begins din p
unfolding din
begins p more indent mark gap ds shape h l k some figures =
    let t : Reading = record { kind = kind_of mark; address = digits_value 16 ds; size = 1; digits = ds; column = length indent + length gap + 2 } in
    let d : DinRecord (p ++ more) t = record { indent = indent; mark = mark; gap = gap; rest = []; shape = shape; indented = h; labelled = label_of mark l; apart = k; some = some; figures = figures; stops = tt; address = refl; size = refl; column = refl } in
    (more, t, d)

one_blank : AllByRecursion Blank (32 ∷ [])
one_blank = (inl refl, tt)

-- the refusals
pub refuse_label : (indent : List ℕ) (b : ℕ) (bs : List ℕ) → AllByRecursion Blank indent → (Blank b → ⊥) → (IsLabel b → ⊥) → Misfits din (indent ++ b ∷ bs) (length indent)
unfolding din
refuse_label indent b bs h solid other =
    misfits din (Blanks AtLabel) indent (b ∷ bs) (begins indent (48 ∷ (32 ∷ (48 ∷ []))) indent 48 (32 ∷ []) (48 ∷ []) refl h (inl refl) one_blank (omega arith) zero_address) (after_indent indent h)
    (λ rest k. other (blanks_done AtLabel b rest solid k).0)

dies_gap : (r : List ℕ) → (0 < length r → Blank (slice_index r 0) → ⊥) → Dies AtGap r
dies_gap [] solid = λ k. k
dies_gap (b ∷ bs) solid = λ rest k. solid (omega arith) k.0

pub refuse_gap : (indent : List ℕ) (mark : ℕ) (r : List ℕ) → AllByRecursion Blank indent → IsLabel mark → (0 < length r → Blank (slice_index r 0) → ⊥) → Misfits din ((indent ++ mark ∷ []) ++ r) (length (indent ++ mark ∷ []))
unfolding din
refuse_gap indent mark r h l solid =
    misfits din AtGap (indent ++ mark ∷ []) r (begins (indent ++ mark ∷ []) (32 ∷ (48 ∷ [])) indent mark (32 ∷ []) (48 ∷ []) (append_assoc indent (mark ∷ []) (32 ∷ (48 ∷ []))) h l one_blank (omega arith) zero_address)
    (λ rest t d. after_label indent mark h l rest t (subst (λ x. DinRecord x t) (append_assoc indent (mark ∷ []) rest) d)) (dies_gap r solid)

dies_digits : (r : List ℕ) → (0 < length r → Blank (slice_index r 0) → ⊥) → (0 < length r → 16 ≤ digit_value (slice_index r 0)) → Dies (Blanks AtDigits) r
dies_digits [] solid stops = λ k. k
dies_digits (b ∷ bs) solid stops = λ rest k. let low = (blanks_done AtDigits b rest (solid (omega arith)) k).0 in let high = stops (omega arith) in omega arith

pub refuse_digits : (indent : List ℕ) (mark : ℕ) (gap r : List ℕ) → AllByRecursion Blank indent → IsLabel mark → AllByRecursion Blank gap → 0 < length gap → (0 < length r → Blank (slice_index r 0) → ⊥) → (0 < length r → 16 ≤ digit_value (slice_index r 0)) → Misfits din ((indent ++ mark ∷ gap) ++ r) (length (indent ++ mark ∷ gap))
unfolding din
refuse_digits indent mark gap r h l k some solid stops =
    misfits din (Blanks AtDigits) (indent ++ mark ∷ gap) r (begins (indent ++ mark ∷ gap) (48 ∷ []) indent mark gap (48 ∷ []) (append_assoc indent (mark ∷ gap) (48 ∷ [])) h l k some zero_address)
    (λ rest t d. after_gap indent mark gap h l k some rest t (subst (λ x. DinRecord x t) (append_assoc indent (mark ∷ gap) rest) d)) (dies_digits r solid stops)

pub refuse_end : (indent : List ℕ) (mark : ℕ) (gap ds : List ℕ) (b : ℕ) (bs : List ℕ) → AllByRecursion Blank indent → IsLabel mark → AllByRecursion Blank gap → 0 < length gap → Figures 16 16 ds → (Blank b → ⊥) → (length ds < 16 → 16 ≤ digit_value b) → Misfits din ((indent ++ mark ∷ (gap ++ ds)) ++ b ∷ bs) (length (indent ++ mark ∷ (gap ++ ds)))
unfolding din
refuse_end indent mark gap ds b bs h l k some figures solid stops =
    let m = 16 - length ds in
    let few = figures.few in
    let sum : 16 ≡ length ds + m = omega arith in
    let joined : (rest : List ℕ) → (indent ++ mark ∷ (gap ++ ds)) ++ rest ≡ indent ++ mark ∷ (gap ++ (ds ++ rest)) = λ rest. append_assoc indent (mark ∷ (gap ++ ds)) rest ∙ ap (λ x. indent ++ mark ∷ x) (append_assoc gap ds rest) in
    misfits din (More 16 m Stops) (indent ++ mark ∷ (gap ++ ds)) (b ∷ bs) (begins (indent ++ mark ∷ (gap ++ ds)) [] indent mark gap ds (joined []) h l k some figures)
    (λ rest t d. after_digits indent mark gap ds m h l k some figures.digits figures.some sum rest t (subst (λ x. DinRecord x t) (joined rest) d))
    (λ rest s. solid (more_done 16 m Stops b rest (λ room. stops (omega arith)) s))

-- a line is one record at most
named : Option ℕ → Kind
named None = Modify
named (Just m) = kind_of m

named_label : (k : Kind) → named (label k) ≡ k
unfolding named kind_of
named_label Load = refl
named_label Store = refl
named_label Fetch = refl
named_label Modify = refl

stops_ends : (r : List ℕ) → Stops r → Ends (λ b. digit_value b < 16) r
stops_ends [] h = tt
stops_ends (b ∷ bs) h = λ low. digit_solid 16 b (omega arith) low h

one_record : (line : List ℕ) (t u : Reading) → DinRecord line t → DinRecord line u → t ≡ u
one_record line t u d e =
    let first = same_run Blank d.indent e.indent (d.mark ∷ (d.gap ++ (t.digits ++ d.rest))) (e.mark ∷ (e.gap ++ (u.digits ++ e.rest))) d.indented e.indented (label_solid d.mark (is_label t.kind d.mark d.labelled)) (label_solid e.mark (is_label u.kind e.mark e.labelled)) (sym d.shape ∙ e.shape) in
    let marks : d.mark ≡ e.mark = (cells first.1).0 in
    let second = same_run Blank d.gap e.gap (t.digits ++ d.rest) (u.digits ++ e.rest) d.apart e.apart (ends_digits t.digits d.rest d.figures.digits d.figures.some) (ends_digits u.digits e.rest e.figures.digits e.figures.some) (cells first.1).1 in
    let third = same_run (λ b. digit_value b < 16) t.digits u.digits d.rest e.rest (digits_all 16 t.digits d.figures.digits) (digits_all 16 u.digits e.figures.digits) (stops_ends d.rest d.stops) (stops_ends e.rest e.stops) second.1 in
    let kinds : t.kind ≡ u.kind = sym (named_label t.kind) ∙ ap named d.labelled ∙ ap (λ m. named (Just m)) marks ∙ sym (ap named e.labelled) ∙ named_label u.kind in
    let addresses : t.address ≡ u.address = d.address ∙ ap (digits_value 16) third.0 ∙ sym e.address in
    let sizes : t.size ≡ u.size = d.size ∙ sym e.size in
    let columns : t.column ≡ u.column = d.column ∙ (λ i. length (first.0 i) + length (second.0 i) + 2) ∙ sym e.column in
    λ i. record { kind = kinds i; address = addresses i; size = sizes i; digits = third.0 i; column = columns i }

pub din_one : One din
unfolding din
din_one = one_meaning din one_record

-- What the reader has seen of a line at first: an indent of i bytes, a byte that is not blank.
pub record Marked (line after : List ℕ) (mark i : ℕ) : Type 0 where
  pub line_is : line ≡ take i line ++ mark ∷ after
  pub long : length (take i line) ≡ i
  pub indent : AllByRecursion Blank (take i line)
  pub solid : Blank mark → ⊥

-- Then: a gap of g bytes, n digits.
pub record Scanned (line after rest : List ℕ) (mark i g n v : ℕ) : Type 0 where
  pub marked : Marked line after mark i
  pub after_is : rest ≡ drop g after
  pub gap : Indent after g
  pub digits : Longest 16 16 rest n v

parts_are : (bs rest : List ℕ) (n : ℕ) → rest ≡ drop n bs → bs ≡ take n bs ++ rest
parts_are bs rest n e = sym (take-append-drop n bs) ∙ ap (λ r. take n bs ++ r) (sym e)

-- the parts of the line as the reader cuts them
pub marked : (line : List ℕ) (i : ℕ) → Indent line i → 1 ≤ length (between i (length line) line) → Marked line (between 1 (length (between i (length line) line)) (between i (length line) line)) (slice_index (between i (length line) line) 0) i
marked line i h some =
    let rest = between i (length line) line in
    let is : rest ≡ drop i line = take_rest line i in
    let long : length rest ≡ length line - i = ap length is ∙ length-drop i line in
    let low : i < length line = omega arith in
    let mark : slice_index rest 0 ≡ slice_index line i = ap (λ r. slice_index r 0) is ∙ get_or-drop i line 0 0 ∙ (let z : i + 0 ≡ i = omega arith in ap (λ k. slice_index line k) z) in
    record {
      line_is = parts_are line rest i is ∙ ap (λ r. take i line ++ r) (first_and_rest rest some);
      long = length-take-le i line h.within;
      indent = h.blanks;
      solid = λ b. h.stops low (subst Blank mark b);
    }

pub scanned : {line after : List ℕ} {mark i g n v : ℕ} → Marked line after mark i → Indent after g → Longest 16 16 (between g (length after) after) n v → Scanned line after (between g (length after) after) mark i g n v
scanned {line} {after} {mark} {i} {g} m gap digits = record { marked = m; after_is = take_rest after g; gap = gap; digits = digits }

pub blank_line : (line : List ℕ) (i : ℕ) → Indent line i → length (between i (length line) line) < 1 → din.skips line
unfolding din
blank_line line i h none =
    let long = ap length (take_rest line i) ∙ length-drop i line in
    subst (AllByRecursion Blank) (take_all i line (omega arith)) h.blanks

marked_solid : {line after : List ℕ} {mark i : ℕ} → Marked line after mark i → din.skips line → ⊥
unfolding din
marked_solid {line} {after} {mark} {i} m blank = m.solid (all_here Blank (take i line) mark after (subst (AllByRecursion Blank) m.line_is blank))

-- a front that has a label is not all blank
labelled_solid : (indent : List ℕ) (mark : ℕ) (bs : List ℕ) → IsLabel mark → din.lead (indent ++ mark ∷ bs) → ⊥
unfolding din
labelled_solid indent mark bs l h = label_solid mark l (all_here Blank indent mark bs h)

pub no_label : {line after : List ℕ} {mark i : ℕ} → Marked line after mark i → ((k : Kind) → label k ≢ Just mark) → Means din line (refused UnknownKind (i + 1))
unfolding din
no_label {line} {after} {mark} {i} m other = (
  marked_solid m,
  unknown_kind din line (take i line) (mark ∷ after) i m.line_is m.long
      (refuse_label (take i line) mark after m.indent m.solid (λ l. other (kind_of mark) (label_of mark l))) m.indent,
)

no_gap : (line after rest : List ℕ) (mark i g n v : ℕ) → Scanned line after rest mark i g n v → IsLabel mark → g ≡ 0 → Refuses din line Misfit (i + g + 2)
no_gap line after rest mark i g n v s l none =
    let p = take i line ++ mark ∷ [] in
    let shape : line ≡ p ++ after = s.marked.line_is ∙ sym (append_assoc (take i line) (mark ∷ []) after) in
    let long : length p ≡ i + 1 = length_push (take i line) mark ∙ ap (λ k. k + 1) s.marked.long in
    let solid : 0 < length after → Blank (slice_index after 0) → ⊥ = subst (λ k. k < length after → Blank (slice_index after k) → ⊥) none s.gap.stops in
    let column : i + 1 + 1 ≡ i + g + 2 = omega arith in
    subst (Refuses din line Misfit) column (misfit din line p after (i + 1) shape long (refuse_gap (take i line) mark after s.marked.indent l solid) (labelled_solid (take i line) mark [] l))

no_digits : (line after rest : List ℕ) (mark i g n v : ℕ) → Scanned line after rest mark i g n v → IsLabel mark → 0 < g → n ≡ 0 → Refuses din line Misfit (i + g + 2)
no_digits line after rest mark i g n v s l some none =
    let p = take i line ++ mark ∷ take g after in
    let shape : line ≡ p ++ rest = s.marked.line_is ∙ ap (λ r. take i line ++ mark ∷ r) (parts_are after rest g s.after_is) ∙ sym (append_assoc (take i line) (mark ∷ take g after) rest) in
    let front = s.marked.long in
    let middle = length-take-le g after s.gap.within in
    let long : length p ≡ i + g + 1 = simp length-append (omega arith) in
    let room : length rest ≡ length after - g = ap length s.after_is ∙ length-drop g after in
    let there : slice_index_or rest 0 0 ≡ slice_index_or after g 0 = ap (λ r. slice_index r 0) s.after_is ∙ get_or-drop g after 0 0 ∙ (let z : g + 0 ≡ g = omega arith in ap (λ k. slice_index after k) z) in
    let solid : 0 < length rest → Blank (slice_index rest 0) → ⊥ = λ h b. s.gap.stops (omega arith) (subst Blank there b) in
    let stops : 0 < length rest → 16 ≤ digit_value (slice_index rest 0) = λ h. subst (λ k. k < length rest → k < 16 → 16 ≤ digit_value (slice_index rest k)) none s.digits.stops h (omega arith) in
    let column : i + g + 1 + 1 ≡ i + g + 2 = omega arith in
    subst (Refuses din line Misfit) column (misfit din line p rest (i + g + 1) shape long (refuse_digits (take i line) mark (take g after) rest s.marked.indent l s.gap.blanks (omega arith) solid stops) (labelled_solid (take i line) mark (take g after) l))

pub no_address : {line after rest : List ℕ} {mark i g n v : ℕ} → Scanned line after rest mark i g n v → (k : Kind) → label k ≡ Just mark → (g ≡ 0) ⊎ ((g ≢ 0) × (n ≡ 0)) → Means din line (refused Misfit (i + g + 2))
no_address {line} {after} {rest} {mark} {i} {g} {n} {v} s k label_is none =
    let l = is_label k mark label_is in
    (marked_solid s.marked, ⊎_elim (no_gap line after rest mark i g n v s l) (λ w. no_digits line after rest mark i g n v s l (let z = w.0 in omega arith) w.1) none)

pub no_end : {line after rest end : List ℕ} {mark i g n v : ℕ} → Scanned line after rest mark i g n v → (k : Kind) → label k ≡ Just mark → 0 < g → 0 < n → end ≡ drop n rest → (Stops end → ⊥) → Means din line (refused Misfit (i + g + 2 + n))
no_end {line} {after} {rest} {end} {mark} {i} {g} {n} {v} s k label_is some any end_is unstopped =
    let on : Stops (drop n rest) → ⊥ = λ h. unstopped (subst Stops (sym end_is) h) in
    let l = is_label k mark label_is in
    let inside : n < length rest = ⊎_elim (λ low. low) (λ high. absurd (on (subst Stops (sym (drop_all n rest high)) tt))) (cases_lt n (length rest)) in
    let solid : Blank (slice_index rest n) → ⊥ = λ b. on (subst Stops (sym (drop_more rest n 0 inside)) b) in
    let ds = take n rest in
    let p = take i line ++ mark ∷ (take g after ++ ds) in
    let r = drop (n + 1) rest in
    let tail : rest ≡ ds ++ slice_index rest n ∷ r = sym (take-append-drop n rest) ∙ ap (λ x. ds ++ x) (drop_more rest n 0 inside) in
    let shape : line ≡ p ++ slice_index rest n ∷ r = s.marked.line_is ∙ ap (λ x. take i line ++ mark ∷ x) (parts_are after rest g s.after_is ∙ ap (λ x. take g after ++ x) tail ∙ sym (append_assoc (take g after) ds (slice_index rest n ∷ r))) ∙ sym (append_assoc (take i line) (mark ∷ (take g after ++ ds)) (slice_index rest n ∷ r)) in
    let front = s.marked.long in
    let middle = length-take-le g after s.gap.within in
    let last = length-take-le n rest s.digits.within in
    let long : length p ≡ i + g + 1 + n = simp length-append (omega arith) in
    let column : i + g + 1 + n + 1 ≡ i + g + 2 + n = omega arith in (
      marked_solid s.marked,
      subst (Refuses din line Misfit) column (misfit din line p (slice_index rest n ∷ r) (i + g + 1 + n) shape long (refuse_end (take i line) mark (take g after) ds (slice_index rest n) r s.marked.indent l s.gap.blanks (omega arith) (figures_of 16 16 rest n v s.digits any) solid (λ low. s.digits.stops inside (omega arith))) (labelled_solid (take i line) mark (take g after ++ ds) l)),
    )

pub a_record : {line after rest ds end : List ℕ} {mark i g n v : ℕ} → Scanned line after rest mark i g n v → (k : Kind) → label k ≡ Just mark → 0 < g → 0 < n → v < 2 ^ 64 → ds ≡ take n rest → end ≡ drop n rest → Stops end → Means din line (told (record { kind = k; address = v; size = 1; digits = ds; column = i + g + 2 }))
unfolding din
a_record {line} {after} {rest} {ds} {end} {mark} {i} {g} {n} {v} s k label_is some any low is end_is stops =
    let front = s.marked.long in
    let middle = length-take-le g after s.gap.within in
    let record_is : DinRecord line (record { kind = k; address = v; size = 1; digits = ds; column = i + g + 2 }) = record {
      indent = take i line;
      mark = mark;
      gap = take g after;
      rest = end;
      shape = s.marked.line_is ∙ ap (λ x. take i line ++ mark ∷ x) (parts_are after rest g s.after_is ∙ ap (λ x. take g after ++ x) (sym (take-append-drop n rest) ∙ (λ j. sym is j ++ sym end_is j)));
      indented = s.marked.indent;
      labelled = label_is;
      apart = s.gap.blanks;
      some = omega arith;
      figures = subst (Figures 16 16) (sym is) (figures_of 16 16 rest n v s.digits any);
      stops = stops;
      address = s.digits.is ∙ ap (digits_value 16) (sym is);
      size = refl;
      column = omega arith;
    } in
    (marked_solid s.marked, record_is, (omega arith, omega arith), omega arith)
