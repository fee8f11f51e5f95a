-- A workload has at most 65,536 bytes.
use Rattle.std.proofs.Common.{◌≡◌, ℕ, zero, suc, ◌+◌, ◌*◌, ◌/◌, ◌%◌, ◌≤◌, Bool, cond, true, false, List, [], ◌∷◌, ◌++◌, length, length-append, codes, refl, arith}
use lib.Dec.{eqb, ltb}
use Rattle.std.proofs.lemmas.List.FromFn.{length-range_with_len}
use Rattle.std.specs.Fmt.{decimal, digit_glyph, digits, digits_onto}
use Rattle.std.specs.List.{flat_map, range_with_len}
use Rattle.em_gen.specs.declared.draws.Task.{Task}
use Rattle.em_gen.specs.Workload.{background_text, band_text, free_text, head_text, numbers_after, code_text, program_text, release_text, script_text, table_text, take_text, timer_lines, timer_text, timers, work_text, workload}

-- one of two texts is as short as the longer one
length-either : (b : Bool) (xs ys : List ℕ) (limit : ℕ) → length xs ≤ limit → length ys ≤ limit → length (cond b xs ys) ≤ limit
length-either true xs ys limit p q = p
length-either false xs ys limit p q = q

-- so many digits stand before the text that they were put to
length-digits_onto : (k base : ℕ) (upper : Bool) (n : ℕ) (acc : List ℕ) → length (digits_onto k base upper n acc) ≤ k + length acc
length-digits_onto zero base upper n acc = omega arith
length-digits_onto (suc k) base upper n acc =
    let more = digit_glyph upper (n % base) ∷ acc in
    length-either (eqb (n / base) 0) more (digits_onto k base upper (n / base) more) (suc k + length acc) (omega arith)
    (omega (arith, length-digits_onto k base upper (n / base) more))

-- any number has at most 64 digits as `decimal` writes it
length-decimal : (n : ℕ) → length (decimal n) ≤ 64
unfolding digits
length-decimal n = length-digits_onto 64 10 false n []

-- texts that are each within a limit
length-flat_map-le : {X : Type 0} (f : X → List ℕ) (limit : ℕ) → ((x : X) → length (f x) ≤ limit)
    → (xs : List X) → length (flat_map f xs) ≤ length xs * limit
length-flat_map-le f limit each [] = omega arith
length-flat_map-le f limit each (x ∷ xs) =
    omega (arith, length-append (f x) (flat_map f xs), each x, length-flat_map-le f limit each xs)

-- ---- the parts of a workload

length-band : (number : ℕ) → length (band_text number) ≤ 80
length-band number =
    length-either (ltb number 8) (codes "band = " ++ decimal (number / 4) ++ codes "\n") [] 80
    (grind (arith, length-append, length-decimal)) (omega arith)

length-timer_lines : (task : Task) → length (timer_lines task) ≤ 500
length-timer_lines task = grind (arith, length-append, length-decimal)

length-timer : (task : Task) → length (timer_text task) ≤ 580
length-timer task =
    omega (arith, length-append (timer_lines task) (band_text task.number), length-timer_lines task, length-band task.number)

length-take : (number : ℕ) → length (take_text number) ≤ 400
length-take number = grind (arith, length-append, length-decimal)

length-work : (number rounds : ℕ) → length (work_text number rounds) ≤ 400
length-work number rounds = grind (arith, length-append, length-decimal)

length-free : (number : ℕ) → length (free_text number) ≤ 200
length-free number = grind (arith, length-append, length-decimal)

length-program : (number rounds : ℕ) → length (program_text number rounds) ≤ 1000
length-program number rounds =
    let take = take_text number in
    let work = work_text number rounds in
    let free = free_text number in
    omega (arith, length-append (take ++ work) free, length-append take work, length-take number, length-work number rounds, length-free number)

length-release : (count : ℕ) → length (release_text count) ≤ 140
length-release count = grind (arith, length-append, length-decimal)

-- ---- the whole

length-table : (tasks : List Task) → length (table_text tasks) ≤ 200 + length tasks * 580
length-table tasks =
    let all = flat_map timer_text tasks in
    omega (arith, length-append (head_text ++ all) background_text, length-append head_text all, length-flat_map-le timer_text 580 length-timer tasks)

length-code : (tasks : List Task) → length (code_text tasks) ≤ 1010 + length tasks * 1000
length-code tasks =
    let program : Task → List ℕ = λ task. program_text task.number task.rounds in
    let all = flat_map program tasks in
    omega (
      arith,
      length-append (codes "%code\n" ++ all) (program_text 15 40),
      length-append (codes "%code\n") all,
      length-program 15 40,
      length-flat_map-le program 1000 (λ task. length-program task.number task.rounds) tasks,
    )

length-script : length script_text ≤ 14010
unfolding script_text
length-script =
    let counts = range_with_len 0 100 in
    let all = flat_map release_text counts in
    omega (arith, length-append (codes "%script\n") all, length-flat_map-le release_text 140 length-release counts, length-range_with_len 0 100)

length-timers : (n : ℕ) → length (timers n) ≡ 15
unfolding numbers_after
length-timers n = refl

-- the workload of any number is short
pub length-workload : (n : ℕ) → length (workload n) ≤ 65536
unfolding workload
length-workload n =
    let tasks = timers n in
    let table = table_text tasks in
    let code = code_text tasks in
    omega (arith, length-append (table ++ code) script_text, length-append table code, length-timers n, length-table tasks, length-code tasks, length-script)
