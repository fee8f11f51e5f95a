-- What holds of every refusal.
use Rattle.std.specs.Prelude.{⊤}
use Rattle.std.proofs.Common.{rules, ◌≡◌, ℕ, ℤ, negsuc, ◌≤ℤ◌, Bool, true, false, List, [], ◌∷◌, IfSome, Some, Option, ap, sym, subst, refl, ◌∙◌}
use Rattle.std.proofs.Math.Path.{fun_ext}
use Rattle.em_base.specs.declared.tables.Table.{Table}
use Rattle.em_gate.specs.declared.calls.Call.{Call}
use Rattle.em_gate.specs.declared.calls.Call.TheVariants.{WaitJob, Acquire, Release, Out, Write, Read, Signal, Exit, Unknown}
use Rattle.em_gate.specs.Calls.{Known, first_refusal, refusal, refusal_tests, E_CALL}

-- a code of a refusal is from -10 to -1
abbrev pub IsCode : ℤ → Type 0
IsCode code = (negsuc 9 ≤ℤ code) × (code ≤ℤ negsuc 0)

-- the tests have such codes
abbrev HaveCodes : List (Bool × ℤ) → Type 0
HaveCodes [] = ⊤
HaveCodes (test ∷ rest) = IsCode test.1 × HaveCodes rest

-- so the first that refuses has one
first_code : (tests : List (Bool × ℤ)) → HaveCodes tests → IfSome (first_refusal tests) IsCode
first_code [] have = tt
first_code ((true, code) ∷ rest) have = have.0
first_code ((false, code) ∷ rest) have = first_code rest have.1

-- the tests of every call have such codes
have_codes : (call : Call) (table : Table) (t : ℕ) (known : Known) → HaveCodes (refusal_tests call table t known)
unfolding refusal_tests
have_codes WaitJob table t known = search rules
have_codes (Acquire s) table t known = search rules
have_codes (Release s) table t known = search rules
have_codes (Out port word) table t known = search rules
have_codes (Write m at) table t known = search rules
have_codes (Read m at) table t known = search rules
have_codes (Signal u word) table t known = search rules
have_codes Exit table t known = search rules
have_codes (Unknown number) table t known = search rules

-- the code of every refusal is from -10 to -1
pub codes : (call : Call) (table : Table) (t : ℕ) (known : Known) → IfSome (refusal call table t known) IsCode
codes call table t known = first_code (refusal_tests call table t known) (have_codes call table t known)

-- the same of an answer
pub coded : (answer : Option ℤ) (call : Call) (table : Table) (t : ℕ) (known : Known) → answer ≡ refusal call table t known → IfSome answer IsCode
coded answer call table t known is = subst (λ r. IfSome r IsCode) (sym is) (codes call table t known)

-- a number that is no call is refused
pub no_call : (number : ℕ) (table : Table) (t : ℕ) (known : Known) → refusal (Unknown number) table t known ≡ Some E_CALL
unfolding refusal_tests
no_call number table t known = refl

-- a refusal rests on what is known alone: where that is the same for each semaphore, port and task, so is the refusal
pub same_refusal : (call : Call) (table : Table) (t : ℕ) (known known' : Known) → ((s : ℕ) → known.owns s ≡ known'.owns s)
    → ((p : ℕ) → known.plugged p ≡ known'.plugged p) → ((u : ℕ) → known.full u ≡ known'.full u)
    → refusal call table t known ≡ refusal call table t known'
same_refusal call table t known known' owns plugged full =
    ap (λ f. refusal call table t (let k : Known = record { owns = f; plugged = known.plugged; full = known.full } in k)) (fun_ext owns)
    ∙ ap (λ f. refusal call table t (let k : Known = record { owns = known'.owns; plugged = f; full = known.full } in k)) (fun_ext plugged)
    ∙ ap (λ f. refusal call table t (let k : Known = record { owns = known'.owns; plugged = known'.plugged; full = f } in k)) (fun_ext full)
