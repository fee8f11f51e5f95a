-- Events that are sorted by time, those of one time as they stood, stand as `in_order` says.
use Rattle.std.proofs.Common.{◌≡◌, ℕ, zero, suc, ◌+◌, ◌<◌, ◌≤◌, ◌==◌, Bool, true, false, cond, not, ◌&&◌, nat_lt, List, [], ◌∷◌, ◌++◌, length, get_or, inl, inr, refl, sym, ap, ◌∙◌, arith}
use Rattle.std.specs.List.{All, filter, flat_map, range_with_len}
use Rattle.std.specs.List.Sorted.{IsNonDecreasingBy, IsStableByKey}
use Rattle.std.specs.Ordering.{nat_cmp, is_lt}
use Rattle.std.proofs.lemmas.Bool.{cases_lt, eq-eqb, ne_eqb, lt-ltb, eqb-true}
use Rattle.std.proofs.lemmas.Bool.Decides.{nat_tests}
use Rattle.std.proofs.lemmas.List.Elements.{All-head, All-tail, filter-append, filter_agree}
use Rattle.em_base.specs.declared.events.Event.TheVariants.{Unplug}
use Rattle.em_base.specs.declared.events.Timed.{Timed}
use Rattle.em_base.specs.Events.{AreInOrder}
use Rattle.em_gate.specs.Events.{at_time, in_order}

-- two functions that agree from a up to a + n give the same there
flat_map-agree : (f g : ℕ → List Timed) (a n : ℕ) → ((t : ℕ) → a ≤ t → t < a + n → f t ≡ g t)
    → flat_map f (range_with_len a n) ≡ flat_map g (range_with_len a n)
flat_map-agree f g a zero h = refl
flat_map-agree f g a (suc n) h =
    let first = h a (omega arith) (omega arith) in
    let rest = flat_map-agree f g (a + 1) n (λ t low high. h t (omega arith) (omega arith)) in
    λ i. first i ++ rest i

-- ---- sorted events

-- events that don't come before b have none at an earlier time
at_time-early : (a b : ℕ) (events : List Timed) → AreInOrder b events → a < b → at_time a events ≡ []
at_time-early a b [] order less = refl
at_time-early a b (event ∷ events) order less =
    let other = ne_eqb event.time a (omega (arith, order.0)) in
    ap (λ x. cond x (event ∷ at_time a events) (at_time a events)) other ∙ at_time-early a event.time events order.1 (omega (arith, order.0))

-- an event isn't among those of another time
at_time-other : (t : ℕ) (event : Timed) (events : List Timed) → event.time < t → at_time t (event ∷ events) ≡ at_time t events
at_time-other t event events less = ap (λ x. cond x (event ∷ at_time t events) (at_time t events)) (ne_eqb event.time t (omega arith))

-- the first event comes first
first-first : (a n : ℕ) (event : Timed) (events : List Timed) → AreInOrder event.time events → a ≤ event.time → event.time < a + n
    → flat_map (λ t. at_time t (event ∷ events)) (range_with_len a n) ≡ event ∷ flat_map (λ t. at_time t events) (range_with_len a n)
first-first a zero event events order low high = absurd (omega arith)
first-first a (suc n) event events order low high =
    elim (cases_lt a event.time) as (λ _. flat_map (λ t. at_time t (event ∷ events)) (range_with_len a (suc n)) ≡ event ∷ flat_map (λ t. at_time t events) (range_with_len a (suc n))) [
      | inl less ↦
          let none = at_time-early a event.time (event ∷ events) (omega arith, order) less in
          let none-after = at_time-early a event.time events order less in
          let rest = first-first (a + 1) n event events order (omega arith) (omega arith) in
          (λ i. none i ++ rest i) ∙ ap (λ xs. event ∷ (xs ++ flat_map (λ t. at_time t events) (range_with_len (a + 1) n))) (sym none-after)
      | inr same ↦
          let here = ap (λ x. cond x (event ∷ at_time a events) (at_time a events)) (eq-eqb event.time a (omega arith)) in
          let rest = flat_map-agree (λ t. at_time t (event ∷ events)) (λ t. at_time t events) (a + 1) n (λ t from to. at_time-other t event events (omega arith)) in
          λ i. here i ++ rest i
    ]

none-in-order : (a n : ℕ) → flat_map (λ t. at_time t []) (range_with_len a n) ≡ []
none-in-order a zero = refl
none-in-order a (suc n) = none-in-order (a + 1) n

-- events in order below a horizon are as they stand
in_order-same : (horizon b : ℕ) (events : List Timed) → AreInOrder b events → All (λ event. event.time < horizon) events → in_order horizon events ≡ events
in_order-same horizon b [] order early = none-in-order 0 horizon
in_order-same horizon b (event ∷ events) order early =
    first-first 0 horizon event events order.1 (omega arith) (omega (arith, All-head (λ (e : Timed). e.time < horizon) event events early))
    ∙ ap (λ es. event ∷ es) (in_order-same horizon event.time events order.1 (All-tail (λ (e : Timed). e.time < horizon) event events early))

-- events whose times don't fall are in order
ordered : (b : ℕ) (events : List Timed) → ((d : Timed) → 0 < length events → b ≤ (get_or events 0 d).time) → IsNonDecreasingBy (λ (event : Timed). event.time) events
    → AreInOrder b events
ordered b [] low up = tt
ordered b (event ∷ events) low up =
    (low event (omega arith), ordered event.time events (λ d some. up 0 1 d (omega arith) (omega arith)) (λ i j d le lt. up (suc i) (suc j) d (omega arith) (omega arith)))

-- ---- a stable sort

-- neither of two numbers is less where they are equal
same-tie : (m t : ℕ) → (m == t) ≡ (not (is_lt (nat_cmp t m)) && not (is_lt (nat_cmp m t)))
same-tie m t = grind (arith, nat_tests)

-- a stable sort by time keeps the events of a time as they stood
at_time-stable : (t : ℕ) (xs ys : List Timed) → IsStableByKey (λ (event : Timed). event.time) nat_cmp xs ys → at_time t ys ≡ at_time t xs
at_time-stable t xs ys stable =
    let one : Timed = record { time = t; event = Unplug (record { 0 = 0 }) } in
    filter_agree _ _ (λ event. same-tie event.time t) ys ∙ stable one ∙ sym (filter_agree _ _ (λ event. same-tie event.time t) xs)

-- ---- the script below the horizon

kept-twice : (p : Timed → Bool) (x : Timed) (l xs : List Timed) (b : Bool) → (p x ≡ true → b ≡ true) → filter p l ≡ filter p xs
    → filter p (cond b (x ∷ l) l) ≡ cond (p x) (x ∷ filter p xs) (filter p xs)
kept-twice p x l xs true h same = ap (λ r. cond (p x) (x ∷ r) r) same
kept-twice p x l xs false h same = same ∙ left_out (p x) h
  where
    left_out : (a : Bool) → (a ≡ true → false ≡ true) → filter p xs ≡ cond a (x ∷ filter p xs) (filter p xs)
    left_out true h = absurd (cc (h refl))
    left_out false h = refl

-- what passes p passes q, so that p keeps the same of what q keeps
filter-weaker : (p q : Timed → Bool) → ((x : Timed) → p x ≡ true → q x ≡ true) → (xs : List Timed) → filter p (filter q xs) ≡ filter p xs
filter-weaker p q h [] = refl
filter-weaker p q h (x ∷ xs) = kept-twice p x (filter q xs) xs (q x) (h x) (filter-weaker p q h xs)

at_time-below : (horizon t : ℕ) (xs ys : List Timed) → t < horizon
    → at_time t (xs ++ filter (λ event. nat_lt event.time horizon) ys) ≡ at_time t (xs ++ ys)
at_time-below horizon t xs ys less =
    let at : Timed → Bool = λ event. event.time == t in
    let below : Timed → Bool = λ event. nat_lt event.time horizon in
    filter-append at xs (filter below ys)
    ∙ ap (λ l. filter at xs ++ l) (filter-weaker at below (λ x e. let same = eqb-true x.time t e in lt-ltb x.time horizon (omega arith)) ys)
    ∙ sym (filter-append at xs ys)

-- the events of timers, and those of a script that are below the horizon, sorted by time
pub in_order-sorted : (horizon : ℕ) (timers script ys : List Timed)
    → IsStableByKey (λ (event : Timed). event.time) nat_cmp (timers ++ filter (λ event. nat_lt event.time horizon) script) ys
    → IsNonDecreasingBy (λ (event : Timed). event.time) ys → All (λ event. event.time < horizon) ys
    → ys ≡ in_order horizon (timers ++ script)
in_order-sorted horizon timers script ys stable up early =
    let early-script = filter (λ (event : Timed). nat_lt event.time horizon) script in
    let order = ordered 0 ys (λ d some. omega arith) up in
    sym (in_order-same horizon 0 ys order early)
    ∙ flat_map-agree (λ t. at_time t ys) (λ t. at_time t (timers ++ script)) 0 horizon
    (λ t low high. at_time-stable t (timers ++ early-script) ys stable ∙ at_time-below horizon t timers script (omega arith))
