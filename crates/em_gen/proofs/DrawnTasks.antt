-- The tasks that the draws give, one after the other.
use Rattle.std.proofs.Common.{◌≡◌, ℕ, suc, ◌+◌, ◌-◌, ◌<◌, ◌≤◌, ◌/◌, List, [], ◌∷◌, ◌++◌, refl, sym, ap, ◌∙◌, arith, append_assoc, append-nil}
use Rattle.em_gen.specs.declared.draws.Task.{Task}
use Rattle.em_gen.specs.Workload.{drawn_task, draws, number_after, numbers_after, tasks_from}

-- the first draw, and those after it
draws-suc : (x count : ℕ) → draws x (suc count) ≡ number_after x / 65536 ∷ draws (number_after x) count
unfolding numbers_after
draws-suc x count = refl

-- without draws there is no task
no-draws : (place x : ℕ) → tasks_from place (draws x 0) ≡ []
unfolding numbers_after
no-draws place x = refl

-- the tasks so far with the next one, and those that the draws after it give, are all
pub tasks-next : (all so_far more : List Task) (place limit x y draw : ℕ) (task : Task) → place < limit
    → y ≡ number_after x → draw ≡ y / 65536 → task ≡ drawn_task place draw → more ≡ so_far ++ task ∷ []
    → all ≡ so_far ++ tasks_from place (draws x (limit - place))
    → all ≡ more ++ tasks_from (place + 1) (draws y (limit - (place + 1)))
tasks-next all so_far more place limit x y draw task below is_y is_draw is_task is_more e =
    let left = limit - (place + 1) in
    let some : limit - place ≡ suc left = omega arith in
    let rest = tasks_from (place + 1) (draws (number_after x) left) in
    let here : drawn_task place (number_after x / 65536) ≡ task =
    ap (λ z. drawn_task place (z / 65536)) (sym is_y) ∙ ap (drawn_task place) (sym is_draw) ∙ sym is_task in
    e ∙ ap (λ k. so_far ++ tasks_from place (draws x k)) some
    ∙ ap (λ drawn. so_far ++ tasks_from place drawn) (draws-suc x left)
    ∙ ap (λ t. so_far ++ t ∷ rest) here
    ∙ sym (append_assoc so_far (task ∷ []) rest)
    ∙ ap (λ tasks. tasks ++ rest) (sym is_more)
    ∙ ap (λ z. more ++ tasks_from (place + 1) (draws z left)) (sym is_y)

-- at the end they are all
pub tasks-all : (all so_far : List Task) (place limit x : ℕ) → limit ≤ place → all ≡ so_far ++ tasks_from place (draws x (limit - place))
    → so_far ≡ all
tasks-all all so_far place limit x end e =
    let none : limit - place ≡ 0 = omega arith in
    sym (e ∙ ap (λ k. so_far ++ tasks_from place (draws x k)) none ∙ ap (λ tasks. so_far ++ tasks) (no-draws place x) ∙ append-nil so_far)
