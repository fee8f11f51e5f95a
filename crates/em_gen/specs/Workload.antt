-- The workload of a number: an application as text, a bundle that the number decides. Which tasks it has, and what they do, is this
-- project's own. The draws come from a linear congruential generator modulo 2^32, as in W. H. Press et al., "Numerical Recipes".
use Rattle.std.specs.Prelude.{ℕ, zero, suc, ◌+◌, ◌*◌, ◌/◌, ◌%◌, ◌^◌, nat_lt, List, [], ◌∷◌, ◌++◌, map, codes, if◌then◌else◌}
use Rattle.std.specs.List.{concat, enumerate_from, flat_map, range_with_len}
use Rattle.std.specs.Fmt.{decimal}
use Rattle.em_gen.specs.declared.draws.Task.{Task}

-- ---- draws

-- the number after a number
abbrev pub number_after : ℕ → ℕ
number_after x = (1664525 * x + 1013904223) % 2 ^ 32

-- so many numbers, each the one after the number before it
unfoldable pub numbers_after : ℕ → ℕ → List ℕ
numbers_after x zero = []
numbers_after x (suc count) = number_after x ∷ numbers_after (number_after x) count

-- what is drawn is the upper half of each number's 32 bits
abbrev pub draws : ℕ → ℕ → List ℕ
draws x count = map (λ number. number / 65536) (numbers_after x count)

-- ---- tasks

-- the task with a place among the tasks and a draw: its period is from 20,000 to 55,000 and its rounds are from 1 to 40
abbrev pub drawn_task : ℕ → ℕ → Task
drawn_task place draw = record {
  number = place;
  period = 20000 + 5000 * (draw % 8);
  rounds = 1 + (draw / 8) % 40;
}

-- the tasks with a timer, from a place on, one for each draw
abbrev pub tasks_from : ℕ → List ℕ → List Task
tasks_from place drawn = map (λ task. drawn_task task.0 task.1) (enumerate_from place drawn)

-- the 15 tasks with a timer
abbrev pub timers : ℕ → List Task
timers n = tasks_from 0 (draws n 15)

-- ---- the table

-- the first two bands are those of the first 8 tasks, 4 in each; the others have none
abbrev pub band_text : ℕ → List ℕ
band_text number = if nat_lt number 8 then codes "band = " ++ decimal (number / 4) ++ codes "\n" else []

-- the lines of a task with a timer, without its band
abbrev pub timer_lines : Task → List ℕ
timer_lines task = concat (
    codes "[[task]]\n"
    ∷ codes "name = \"t" ∷ decimal task.number ∷ codes "\"\n"
    ∷ codes "entry = \"t" ∷ decimal task.number ∷ codes "\"\n"
    ∷ codes "kind = \"timer\"\n"
    ∷ codes "period = " ∷ decimal task.period ∷ codes "\n"
    ∷ codes "deadline = " ∷ decimal task.period ∷ codes "\n"
    ∷ codes "cost = 400\n"
    ∷ codes "section = 300\n"
    ∷ codes "uses = [" ∷ decimal (task.number % 4) ∷ codes "]\n"
    ∷ [])

abbrev pub timer_text : Task → List ℕ
timer_text task = timer_lines task ++ band_text task.number

-- the lines of the table's head
abbrev pub head_text : List ℕ
head_text = concat (
    codes "%table\n"
    ∷ codes "horizon = 5000000\n"
    ∷ codes "semaphores = 4\n"
    ∷ [])

-- the lines of the task in the background, which stands last
abbrev pub background_text : List ℕ
background_text = concat (
    codes "[[task]]\n"
    ∷ codes "name = \"t15\"\n"
    ∷ codes "entry = \"t15\"\n"
    ∷ codes "kind = \"background\"\n"
    ∷ codes "period = 50000\n"
    ∷ codes "section = 300\n"
    ∷ codes "uses = [3]\n"
    ∷ codes "line = 0\n"
    ∷ [])

abbrev pub table_text : List Task → List ℕ
table_text tasks = head_text ++ flat_map timer_text tasks ++ background_text

-- ---- the code

-- a task waits for a job, and takes its semaphore: the lines of that
abbrev pub take_text : ℕ → List ℕ
take_text number = concat (
    codes "t" ∷ decimal number ∷ codes ": j b" ∷ decimal number ∷ codes "\n"
    ∷ codes "w" ∷ decimal number ∷ codes ": waitjob\n"
    ∷ codes "b" ∷ decimal number ∷ codes ": li a7, 2\n"
    ∷ codes "li a0, " ∷ decimal (number % 4) ∷ codes "\n"
    ∷ codes "ecall\n"
    ∷ [])

-- it counts its rounds down, and writes its number to its port
abbrev pub work_text : ℕ → ℕ → List ℕ
work_text number rounds = concat (
    codes "li t0, " ∷ decimal rounds ∷ codes "\n"
    ∷ codes "l" ∷ decimal number ∷ codes ": addi t0, t0, -1\n"
    ∷ codes "bne t0, zero, l" ∷ decimal number ∷ codes "\n"
    ∷ codes "li a7, 4\n"
    ∷ codes "li a0, " ∷ decimal (number % 8) ∷ codes "\n"
    ∷ codes "li a1, " ∷ decimal number ∷ codes "\n"
    ∷ codes "ecall\n"
    ∷ [])

-- it frees its semaphore, and waits again
abbrev pub free_text : ℕ → List ℕ
free_text number = concat (
    codes "li a7, 3\n"
    ∷ codes "li a0, " ∷ decimal (number % 4) ∷ codes "\n"
    ∷ codes "ecall\n"
    ∷ codes "j w" ∷ decimal number ∷ codes "\n"
    ∷ [])

-- the lines of a task
abbrev pub program_text : ℕ → ℕ → List ℕ
program_text number rounds = take_text number ++ work_text number rounds ++ free_text number

-- the tasks with a timer, then the one in the background, with 40 rounds
abbrev pub code_text : List Task → List ℕ
code_text tasks = codes "%code\n" ++ flat_map (λ task. program_text task.number task.rounds) tasks ++ program_text 15 40

-- ---- the script

-- the line of a release: every 50,000 cycles, with its count as the word
abbrev pub release_text : ℕ → List ℕ
release_text count = concat (decimal (50000 * count) ∷ codes " line 0 " ∷ decimal count ∷ codes "\n" ∷ [])

-- the 100 releases before the horizon
unfoldable pub script_text : List ℕ
script_text = codes "%script\n" ++ flat_map release_text (range_with_len 0 100)

-- ---- the whole

-- the text of an application with these tasks
abbrev pub bundle_text : List Task → List ℕ
bundle_text tasks = table_text tasks ++ code_text tasks ++ script_text

-- the workload of a number
unfoldable pub workload : ℕ → List ℕ
workload n = bundle_text (timers n)
