-- The lines of a trace, as they are printed. The formats are this project's own.
use Rattle.std.specs.Prelude.{ℕ, ◌^◌, ◌<◌, ℤ, negsuc, ◌≤ℤ◌, ⊤, List, [], ◌∷◌, ◌++◌, Option, Some, None, codes}
use Rattle.std.specs.List.{join_with_byte, flat_map}
use Rattle.std.specs.Fmt.{decimal, signed_decimal}
use Rattle.em_base.specs.declared.ids.SemId.{SemId}
use Rattle.em_trace.specs.declared.lines.Line.{Line}
use Rattle.em_trace.specs.declared.lines.Line.TheVariants.{Rel, Dropped, JobEnd, Acq, Free, Out, Sig, Put, Get, Refused, Faulted, Gone, Exited}

-- a semaphore, or a dash for none
abbrev pub semaphore_text : Option SemId → List ℕ
semaphore_text None = codes "-"
semaphore_text (Some sem) = decimal sem.0

-- the words of a line
abbrev pub line_words : Line → List (List ℕ)
line_words (Rel task job time word) = codes "rel" ∷ decimal task.0 ∷ decimal job ∷ decimal time ∷ decimal word ∷ []
line_words (Dropped task time) = codes "drop" ∷ decimal task.0 ∷ decimal time ∷ []
line_words (JobEnd task job) = codes "end" ∷ decimal task.0 ∷ decimal job ∷ []
line_words (Acq task sem) = codes "acq" ∷ decimal task.0 ∷ decimal sem.0 ∷ []
line_words (Free task sem) = codes "free" ∷ decimal task.0 ∷ decimal sem.0 ∷ []
line_words (Out task port word value) = codes "out" ∷ decimal task.0 ∷ decimal port.0 ∷ decimal word ∷ decimal value ∷ []
line_words (Sig task to job) = codes "sig" ∷ decimal task.0 ∷ decimal to.0 ∷ decimal job ∷ []
line_words (Put task msg number) = codes "put" ∷ decimal task.0 ∷ decimal msg.0 ∷ decimal number ∷ []
line_words (Get task msg number) = codes "get" ∷ decimal task.0 ∷ decimal msg.0 ∷ decimal number ∷ []
line_words (Refused task call code) = codes "err" ∷ decimal task.0 ∷ decimal call ∷ signed_decimal code ∷ []
line_words (Faulted task cause pc sem) = codes "fault" ∷ decimal task.0 ∷ decimal cause ∷ decimal pc ∷ semaphore_text sem ∷ []
line_words (Gone port value) = codes "gone" ∷ decimal port.0 ∷ decimal value ∷ []
line_words (Exited task) = codes "exit" ∷ decimal task.0 ∷ []

-- the text of a line: its words with one space between them
abbrev pub line_text : Line → List ℕ
line_text line = join_with_byte 32 (line_words line)

-- the text of a trace: its lines, each followed by a line feed
abbrev pub trace_text : List Line → List ℕ
trace_text lines = flat_map (λ line. line_text line ++ codes "\n") lines

-- ---- what the words of a line may be

-- a number of a task, a semaphore, a message or a port, or a cause: one of 8 bits
abbrev pub IsByte : ℕ → Type 0
IsByte n = n < 2 ^ 8

-- a number of 32 bits
abbrev pub IsWord : ℕ → Type 0
IsWord n = n < 2 ^ 32

-- a number of a job or a value, or a time: one of 64 bits
abbrev pub IsCount : ℕ → Type 0
IsCount n = n < 2 ^ 64

-- a code from -10 to -1
abbrev pub IsCode : ℤ → Type 0
IsCode code = (negsuc 9 ≤ℤ code) × (code ≤ℤ negsuc 0)

-- a semaphore's number, where there is one
abbrev pub IsSemaphore : Option SemId → Type 0
IsSemaphore None = ⊤
IsSemaphore (Some sem) = IsByte sem.0

-- the code of a refused call may stand there
abbrev pub HasCode : Line → Type 0
HasCode (Refused task call code) = IsCode code
HasCode _ = ⊤

-- the words of a line may stand there
abbrev pub IsLine : Line → Type 0
IsLine (Rel task job time word) = IsByte task.0 × IsCount job × IsCount time × IsWord word
IsLine (Dropped task time) = IsByte task.0 × IsCount time
IsLine (JobEnd task job) = IsByte task.0 × IsCount job
IsLine (Acq task sem) = IsByte task.0 × IsByte sem.0
IsLine (Free task sem) = IsByte task.0 × IsByte sem.0
IsLine (Out task port word value) = IsByte task.0 × IsByte port.0 × IsWord word × IsWord value
IsLine (Sig task to job) = IsByte task.0 × IsByte to.0 × IsCount job
IsLine (Put task msg number) = IsByte task.0 × IsByte msg.0 × IsCount number
IsLine (Get task msg number) = IsByte task.0 × IsByte msg.0 × IsCount number
IsLine (Refused task call code) = IsByte task.0 × IsWord call × IsCode code
IsLine (Faulted task cause pc sem) = IsByte task.0 × IsByte cause × IsWord pc × IsSemaphore sem
IsLine (Gone port value) = IsByte port.0 × IsWord value
IsLine (Exited task) = IsByte task.0
