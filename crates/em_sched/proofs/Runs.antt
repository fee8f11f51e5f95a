-- The plain run under a schedule that has one event or one step more.
use Rattle.std.proofs.Common.{◌≡◌, ◌∙◌, ℕ, zero, suc, ◌+◌, ◌-◌, if◌then◌else◌, Bool, true, false, [], ◌∷◌, Option, None, Some, ap, arith}
use Rattle.em_base.specs.declared.apps.App.{App}
use Rattle.em_base.specs.declared.events.Event.{Event}
use Rattle.em_gate.specs.Effects.{after_step}
use Rattle.em_gate.specs.Events.{after_event}
use Rattle.em_gate.specs.Selecting.{plain_selected}
use Rattle.em_gate.specs.State.{Plain}
use Rattle.em_plain.specs.Runs.{Went, On, Full, Misfit, and_then, events, is_full, run_from, steps}
use Rattle.em_plain.proofs.Went.{events_append, next_event, no_event, no_step, steps_add, takes_step}
use Rattle.em_sched.specs.Image.{Image, put_down, scheduled, stepped_on}

-- under the events and the count of an image so far, the plain machine comes to the image
abbrev pub Comes : App → Plain → Image → Type 0
Comes app p image = run_from app p (scheduled image) ≡ On image.plain image.count

-- ---- counts

on_count : (p q : Plain) (m n : ℕ) → On p m ≡ On q n → m ≡ n
on_count p q m n e = cc

on_state : (p q : Plain) (m n : ℕ) → On p m ≡ On q n → p ≡ q
on_state p q m n e = cc

full_on : (p q : Plain) (m n : ℕ) → Full p m ≡ On q n → ⊥
full_on p q m n e = cc

misfit_on : (p q : Plain) (m n : ℕ) → Misfit p m ≡ On q n → ⊥
misfit_on p q m n e = cc

-- so many steps, where the machine doesn't stop before
pub steps_count : (app : App) (k : ℕ) (p q : Plain) (m n : ℕ) → steps app k p m ≡ On q n → n ≡ m + k
unfolding steps
steps_count app zero p q m n e = let same = on_count p q m n e in omega (arith, same)
steps_count app (suc k) p q m n e =
    by_full (λ t. steps_count app k (after_step app.table app.image.words (record { 0 = t }) p) q (suc m) n) (is_full p) e
  where
    More : Type 0
    More = (t : ℕ) → steps app k (after_step app.table app.image.words (record { 0 = t }) p) (suc m) ≡ On q n → n ≡ suc m + k

    by_task : More → (selected : Option ℕ)
        → elim selected as (λ _. Went) [ None ↦ Misfit p m | Some t ↦ steps app k (after_step app.table app.image.words (record { 0 = t }) p) (suc m) ] ≡ On q n → n ≡ m + suc k
    by_task more None e = absurd (misfit_on p q m n e)
    by_task more (Some t) e = let all = more t e in omega (arith, all)

    by_full : More → (b : Bool)
        → (if b then Full p m
        else elim (plain_selected app.table.tasks p) as (λ _. Went) [ None ↦ Misfit p m | Some t ↦ steps app k (after_step app.table app.image.words (record { 0 = t }) p) (suc m) ]) ≡ On q n
        → n ≡ m + suc k
    by_full more true e = absurd (full_on p q m n e)
    by_full more false e = by_task more (plain_selected app.table.tasks p) e

-- ---- one more

abbrev ends_at : App → ℕ → Plain → ℕ → Went
ends_at app last p count = steps app (last - count) p count

-- at boot
pub comes_first : (app : App) (p : Plain) → Comes app p (record { plain = p; count = 0; events = [] })
comes_first app p = ap (λ went. and_then went (ends_at app 0)) (no_event app p 0) ∙ no_step app p 0

abbrev takes : App → Event → Plain → ℕ → Went
takes app event p count = if is_full p then Full p count else events app (after_event event p) count []

-- an event more, where the trace isn't full
pub comes_event : (app : App) (p : Plain) (event : Event) (image : Image) → is_full image.plain ≡ false → Comes app p image → Comes app p (put_down event image)
comes_event app p event image room comes =
    ap (λ went. and_then went (ends_at app image.count)) (events_append app p 0 image.events ((image.count, event) ∷ []))
    ∙ by_went (events app p 0 image.events) comes
  where
    one : Plain → ℕ → Went
    one q n = events app q n ((image.count, event) ∷ [])

    taken : takes app event image.plain image.count ≡ On (after_event event image.plain) image.count
    taken = ap (λ b. if b then Full image.plain image.count else events app (after_event event image.plain) image.count []) room
        ∙ no_event app (after_event event image.plain) image.count

    none_left : ends_at app image.count (after_event event image.plain) image.count ≡ On (after_event event image.plain) image.count
    none_left =
        let none : image.count - image.count ≡ 0 = omega arith in
        ap (λ k. steps app k (after_event event image.plain) image.count) none ∙ no_step app (after_event event image.plain) image.count

    by_went : (went : Went) → and_then went (ends_at app image.count) ≡ On image.plain image.count
        → and_then (and_then went one) (ends_at app image.count) ≡ On (after_event event image.plain) image.count
    by_went (On q n) e =
        ap (λ w. and_then w (ends_at app image.count))
        (next_event app q n (image.count, event) [] ∙ ap (λ w. and_then w (takes app event)) e ∙ taken)
        ∙ none_left
    by_went (Full q n) e = absurd (full_on q image.plain n image.count e)
    by_went (Misfit q n) e = absurd (misfit_on q image.plain n image.count e)

-- a step more, where the trace isn't full
pub comes_step : (app : App) (p : Plain) (t : ℕ) (image : Image) → is_full image.plain ≡ false → plain_selected app.table.tasks image.plain ≡ Some t
    → Comes app p image → Comes app p (stepped_on app t image)
comes_step app p t image room chosen comes = by_went (events app p 0 image.events) comes
  where
    after : Plain
    after = after_step app.table app.image.words (record { 0 = t }) image.plain

    one : steps app 1 image.plain image.count ≡ On after (suc image.count)
    one = takes_step app 0 image.plain image.count t room chosen ∙ no_step app after (suc image.count)

    by_went : (went : Went) → and_then went (ends_at app image.count) ≡ On image.plain image.count
        → and_then went (ends_at app (suc image.count)) ≡ On after (suc image.count)
    by_went (On q n) e =
        let counted = steps_count app (image.count - n) q image.plain n image.count e in
        let more : suc image.count - n ≡ (image.count - n) + 1 = omega (arith, counted) in
        ap (λ k. steps app k q n) more ∙ steps_add app (image.count - n) 1 q n ∙ ap (λ w. and_then w (λ r m. steps app 1 r m)) e ∙ one
    by_went (Full q n) e = absurd (full_on q image.plain n image.count e)
    by_went (Misfit q n) e = absurd (misfit_on q image.plain n image.count e)
