-- The steps of a cut: the parts that were found so far, and then all of them, are the parts of the lines.
use Rattle.std.proofs.Common.{◌≡◌, ◌∙◌, ℕ, ◌+◌, ◌≤◌, Bool, true, false, not, List, [], ◌∷◌, ◌++◌, length, Option, Some, None, MatchOption, is_some, inr, refl, sym, ap, subst, arith, lit<, append-nil, length-append}
use Rattle.std.proofs.lemmas.List.{take_all}
use Rattle.std.proofs.lemmas.List.Folds.{list_all-append}
use Rattle.std.specs.List.{list_all}
use Rattle.std.specs.Str.{bytes_eq}
use Rattle.std.specs.Str.Lines.{lines}
use denote.Ref.{Bor}
use Rattle.em_base.proofs.Trimming.{both_are}
use Rattle.em_base.specs.declared.refusals.Refusal.{Refusal}
use Rattle.em_bundle.specs.declared.faults.Fault.TheVariants.{MisplacedHeader}
use Rattle.em_bundle.specs.Faults.{refusal_at}
use Rattle.em_bundle.specs.Parts.{IsCut, IsUncut, PartLines, code_header, header_number, headers, headers_in, is_header, line_at, part_of, parts_of, schedule_header, script_header, table_header}
use Rattle.em_bundle.specs.Walk.{ArePlain, IsFirstLine, IsHeaded, IsLastParted, IsLastUnparted, IsParted, IsUnparted}
use Rattle.em_bundle.proofs.PartsCut.{Differ, IsBegun, IsPlaced, Lines, begun, begun-next, one-too-many, placed, plain-differ, unparted, unplaced}

-- ---- the lines of the parts so far

abbrev to-code : Lines → Lines
to-code table = table_header ∷ table

abbrev to-script : Lines → Lines → Lines
to-script table code = (table_header ∷ table) ++ code_header ∷ code

abbrev to-schedule : Lines → Lines → Lines → Lines
to-schedule table code script = ((table_header ∷ table) ++ code_header ∷ code) ++ script_header ∷ script

length-script : (table code : Lines) → length (to-script table code) ≡ 2 + length table + length code
length-script table code = omega (arith, length-append (table_header ∷ table) (code_header ∷ code))

length-schedule : (table code script : Lines) → length (to-schedule table code script) ≡ 3 + length table + length code + length script
length-schedule table code script = omega (arith, length-script table code, length-append (to-script table code) (script_header ∷ script))

-- ---- the parts that were found

pub record HasTable (texts rest table : Lines) : Type 0 where
  pub headed : is_header (line_at texts 0) ≡ true
  pub parted : IsParted table_header texts table rest

pub record HasCode (texts rest table code : Lines) : Type 0 where
  pub middle : Lines
  pub before : HasTable texts middle table
  pub parted : IsParted code_header middle code rest

pub record HasScript (texts rest table code script : Lines) : Type 0 where
  pub middle : Lines
  pub before : HasCode texts middle table code
  pub parted : IsParted script_header middle script rest

-- all parts that are due
pub record HasAll (replay : Bool) (texts middle rest table code script schedule : Lines) : Type 0 where
  pub before : HasScript texts middle table code script
  pub parted : IsLastParted replay middle schedule rest

-- the parts up to the script, from the answers for each
pub script-found : (texts r1 r2 r3 table code script : Lines) → is_header (line_at texts 0) ≡ true → IsParted table_header texts table r1 → IsParted code_header r1 code r2
    → IsParted script_header r2 script r3 → HasScript texts r3 table code script
script-found texts r1 r2 r3 table code script headed p q r =
    record { middle = r2; before = record { middle = r1; before = record { headed = headed; parted = p }; parted = q }; parted = r }

begun-table : (replay : Bool) (texts rest table : Lines) → HasTable texts rest table → IsBegun replay texts (to-code table) rest 1
begun-table replay texts rest table h = begun-next replay texts [] texts table rest 0 table_header (begun replay texts h.headed) h.parted refl refl

begun-code : (replay : Bool) (texts rest table code : Lines) → HasCode texts rest table code → IsBegun replay texts (to-script table code) rest 2
begun-code replay texts rest table code h =
    begun-next replay texts (to-code table) h.middle code rest 1 code_header (begun-table replay texts h.middle table h.before) h.parted refl refl

begun-script : (replay : Bool) (texts rest table code script : Lines) → HasScript texts rest table code script → IsBegun replay texts (to-schedule table code script) rest 3
begun-script replay texts rest table code script h =
    begun-next replay texts (to-script table code) h.middle script rest 2 script_header (begun-code replay texts h.middle table code h.before) h.parted refl refl

-- ---- a header that is missing or another

-- the headers up to the script's are due with replay and without
three-due : (replay : Bool) → 3 ≤ length (headers replay)
three-due true = omega arith
three-due false = omega arith

pub no-table : (replay : Bool) (texts : Lines) (refusal : Refusal) → is_header (line_at texts 0) ≡ true → IsUnparted table_header 1 texts refusal → IsUncut replay texts refusal
no-table replay texts refusal headed h =
    unparted replay texts [] texts 0 1 table_header refusal (begun replay texts headed) (inr headed) (omega (arith, three-due replay)) refl refl h

pub no-code : (replay : Bool) (texts rest table : Lines) (number : ℕ) (refusal : Refusal) → HasTable texts rest table → number ≡ 2 + length table
    → IsUnparted code_header number rest refusal → IsUncut replay texts refusal
no-code replay texts rest table number refusal t n h =
    unparted replay texts (to-code table) rest 1 number code_header refusal (begun-table replay texts rest table t) t.parted.parted.headed (omega (arith, three-due replay)) refl
    (omega (arith, n)) h

pub no-script : (replay : Bool) (texts rest table code : Lines) (number : ℕ) (refusal : Refusal) → HasCode texts rest table code → number ≡ 3 + length table + length code
    → IsUnparted script_header number rest refusal → IsUncut replay texts refusal
no-script replay texts rest table code number refusal t n h =
    unparted replay texts (to-script table code) rest 2 number script_header refusal (begun-code replay texts rest table code t) t.parted.parted.headed (omega (arith, three-due replay)) refl
    (omega (arith, n, length-script table code)) h

pub no-schedule : (replay : Bool) (texts rest table code script : Lines) (number : ℕ) (refusal : Refusal) → HasScript texts rest table code script
    → number ≡ 4 + length table + length code + length script → IsLastUnparted replay number rest refusal → IsUncut replay texts refusal
no-schedule true texts rest table code script number refusal t n h =
    unparted true texts (to-schedule table code script) rest 3 number schedule_header refusal (begun-script true texts rest table code script t) t.parted.parted.headed (lit< tt) refl
    (omega (arith, n, length-schedule table code script)) h
no-schedule false texts rest table code script number refusal t n h = absurd h

-- ---- all parts that are due

-- all headers that are due were found, and these lines are left
record IsEnded (replay : Bool) (texts rest : Lines) : Type 0 where
  pub front : Lines
  pub begun : IsBegun replay texts front rest (length (headers replay))
  pub headed : IsHeaded rest

ended : (replay : Bool) (texts middle rest table code script schedule : Lines) → HasAll replay texts middle rest table code script schedule → IsEnded replay texts rest
ended true texts middle rest table code script schedule h = record {
  front = to-schedule table code script ++ schedule_header ∷ schedule;
  begun =
      begun-next true texts (to-schedule table code script) middle schedule rest 3 schedule_header (begun-script true texts middle table code script h.before) h.parted refl refl;
  headed = h.parted.parted.headed;
}
ended false texts middle rest table code script schedule h = record {
  front = to-schedule table code script;
  begun = subst (λ ls. IsBegun false texts (to-schedule table code script) ls 3) (sym h.parted.1) (begun-script false texts middle table code script h.before);
  headed = subst IsHeaded (sym h.parted.1) h.before.parted.parted.headed;
}

-- the lines, counted by the parts up to the script
counted : (texts middle table code script : Lines) → HasScript texts middle table code script
    → length texts ≡ 3 + length table + length code + length script + length middle
counted texts middle table code script h =
    let b = begun-script false texts middle table code script h in
    omega (arith, ap length b.joined, length-append (to-schedule table code script) middle, length-schedule table code script)

-- a line that is left
some-left : (found : Option (Bor (List ℕ) × Bor (List ℕ))) (text : List ℕ) → is_some found ≡ true
    → MatchOption found (text ≡ []) (λ f. IsFirstLine text f.0.now f.1.now) → (line : List ℕ) × (rest : List ℕ) × (lines text ≡ line ∷ lines rest)
some-left None text e h = absurd (cc)
some-left (Some f) text e h = (f.0.now, f.1.now, h.first)

pub none-left : (found : Option (Bor (List ℕ) × Bor (List ℕ))) (text : List ℕ) → is_some found ≡ false
    → MatchOption found (text ≡ []) (λ f. IsFirstLine text f.0.now f.1.now) → lines text ≡ []
none-left None text e h = ap lines h
none-left (Some f) text e h = absurd (cc)

pub one-more : (replay : Bool) (texts middle table code script schedule : Lines) (rest : List ℕ) (number : ℕ) (found : Option (Bor (List ℕ) × Bor (List ℕ))) (refusal : Refusal)
    → HasAll replay texts middle (lines rest) table code script schedule
    → number + length (lines rest) ≡ 4 + length table + length code + length script + length middle → is_some found ≡ true
    → MatchOption found (rest ≡ []) (λ f. IsFirstLine rest f.0.now f.1.now) → refusal ≡ refusal_at MisplacedHeader number → IsUncut replay texts refusal
one-more replay texts middle table code script schedule rest number found refusal h n some first named =
    let left = some-left found rest some first in
    let e = ended replay texts middle (lines rest) table code script schedule h in
    let place : number ≡ length e.front + 1
    = omega (arith, n, counted texts middle table code script h.before, ap length e.begun.joined, length-append e.front (lines rest)) in
    one-too-many replay texts e.front (lines rest) (lines left.1) left.0 refusal e.begun e.headed left.2 (named ∙ ap (refusal_at MisplacedHeader) place)

-- ---- the parts of the lines

pub record AreParted (replay : Bool) (texts table code script schedule : Lines) : Type 0 where
  pub cut : IsCut replay texts
  pub table_found : part_of table_header texts ≡ table
  pub code_placed : IsPlaced texts code code_header (length (to-code table))
  pub script_placed : IsPlaced texts script script_header (length (to-script table code))
  pub schedule_placed : IsPlaced texts schedule schedule_header (length (to-schedule table code script))
  pub enough : 3 + length table + length code + length script + length schedule ≤ length texts

-- a header that isn't among lines isn't among them and another part
differ-next : (header other : List ℕ) (front part : Lines) → Differ header front → not (bytes_eq header other) ≡ true → is_header header ≡ true → ArePlain part
    → Differ header (front ++ other ∷ part)
differ-next header other front part d e h plain =
    list_all-append (λ line. not (bytes_eq header line)) front (other ∷ part)
    ∙ both_are (list_all (λ line. not (bytes_eq header line)) front) (list_all (λ line. not (bytes_eq header line)) (other ∷ part)) d
    (both_are (not (bytes_eq header other)) (list_all (λ line. not (bytes_eq header line)) part) e (plain-differ header part h plain))

all-in-order : (replay : Bool) (texts middle rest table code script schedule : Lines) → HasAll replay texts middle rest table code script schedule → rest ≡ [] → IsCut replay texts
all-in-order replay texts middle rest table code script schedule h none =
    let e = ended replay texts middle rest table code script schedule h in
    let whole : texts ≡ e.front = e.begun.joined ∙ ap (λ ls. e.front ++ ls) none ∙ append-nil e.front in
    record { headed = e.begun.headed; due = ap headers_in whole ∙ e.begun.first ∙ take_all (length (headers replay)) (headers replay) (omega arith) }

schedule-placed : (replay : Bool) (texts middle rest table code script schedule : Lines) → HasAll replay texts middle rest table code script schedule → rest ≡ []
    → IsPlaced texts schedule schedule_header (length (to-schedule table code script))
schedule-placed replay texts middle rest table code script schedule h none = by_replay replay h.parted
  where
    front : Lines
    front = to-schedule table code script

    joined : texts ≡ front ++ middle
    joined = (begun-script false texts middle table code script h.before).joined

    differ : Differ schedule_header front
    differ =
        differ-next schedule_header script_header (to-script table code) script
        (differ-next schedule_header code_header (to-code table) code (plain-differ schedule_header table refl h.before.before.before.parted.parted.plain) refl refl
        h.before.before.parted.parted.plain) refl refl h.before.parted.parted.plain

    by_replay : (replay : Bool) → IsLastParted replay middle schedule rest → IsPlaced texts schedule schedule_header (length front)
    by_replay true p = placed texts front p.after schedule rest schedule_header (joined ∙ ap (λ ls. front ++ ls) p.joined) p.parted differ refl
    by_replay false p =
        subst (λ part. IsPlaced texts part schedule_header (length front)) (sym p.0)
        (unplaced texts front schedule_header (joined ∙ ap (λ ls. front ++ ls) (sym p.1 ∙ none) ∙ append-nil front) differ)

last-counted : (replay : Bool) (middle rest schedule : Lines) → IsLastParted replay middle schedule rest → length schedule ≤ length middle
last-counted true middle rest schedule p = omega (arith, ap length p.joined, ap length p.parted.joined, length-append schedule rest)
last-counted false middle rest schedule p = omega (arith, ap length p.0)

pub all-cut : (replay : Bool) (texts middle rest table code script schedule : Lines) → HasAll replay texts middle rest table code script schedule → rest ≡ []
    → AreParted replay texts table code script schedule
all-cut replay texts middle rest table code script schedule h none =
    let c = h.before.before in
    let t = c.before in
    let first = begun-table replay texts c.middle table t in
    let second = begun-code replay texts h.before.middle table code c in
    let differ-script
    = differ-next script_header code_header (to-code table) code (plain-differ script_header table refl t.parted.parted.plain) refl refl c.parted.parted.plain in
    record {
      cut = all-in-order replay texts middle rest table code script schedule h none;
      table_found = (placed texts [] t.parted.after table c.middle table_header t.parted.joined t.parted.parted refl refl).found;
      code_placed =
          placed texts (to-code table) c.parted.after code h.before.middle code_header (first.joined ∙ ap (λ ls. to-code table ++ ls) c.parted.joined) c.parted.parted
          (plain-differ code_header table refl t.parted.parted.plain) refl;
      script_placed =
          placed texts (to-script table code) h.before.parted.after script middle script_header (second.joined ∙ ap (λ ls. to-script table code ++ ls) h.before.parted.joined)
          h.before.parted.parted differ-script refl;
      schedule_placed = schedule-placed replay texts middle rest table code script schedule h none;
      enough = omega (arith, counted texts middle table code script h.before, last-counted replay middle rest schedule h.parted);
    }

-- the parts, as a record of lines
pub same-parts : (replay : Bool) (texts table code script schedule : Lines) (code_line script_line schedule_line : ℕ) → AreParted replay texts table code script schedule
    → code_line ≡ 2 + length table → script_line ≡ 3 + length table + length code → schedule_line ≡ 4 + length table + length code + length script
    → (let p : PartLines = record {
      table = table;
      code = code;
      code_line = code_line;
      script = script;
      script_line = script_line;
      schedule = schedule;
      schedule_line = schedule_line;
    } in p)
    ≡ parts_of texts
same-parts replay texts table code script schedule code_line script_line schedule_line a e f g =
    let n : code_line ≡ header_number code_header texts = omega (arith, e, a.code_placed.number) in
    let m : script_line ≡ header_number script_header texts = omega (arith, f, a.script_placed.number, length-script table code) in
    let k : schedule_line ≡ header_number schedule_header texts = omega (arith, g, a.schedule_placed.number, length-schedule table code script) in
    rw (a.table_found, a.code_placed.found, a.script_placed.found, a.schedule_placed.found, ← n, ← m, ← k) refl
