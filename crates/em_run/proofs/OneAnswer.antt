-- For a command and bytes one status with one text is due beside want of memory.
use Rattle.std.proofs.Common.{◌+◌, ◌≡◌, ◌≢◌, ◌⊎◌, ◌∙◌, ℕ, Bool, true, false, List, Option, Some, None, inl, inr, refl, sym, ap, subst}
use Rattle.std.specs.Str.Lines.{lines}
use Rattle.em_base.specs.declared.apps.App.{App}
use Rattle.em_base.specs.declared.events.Schedule.{Schedule}
use Rattle.em_base.specs.declared.refusals.Refusal.{Refusal}
use Rattle.em_show.specs.Listing.{IsListing}
use Rattle.em_bundle.specs.Application.{IsApplicationFor, IsBundleRefusedFor, IsScheduled}
use Rattle.em_bundle.specs.Parts.{parts_of}
use Rattle.em_kernel.specs.declared.did.End.{End}
use Rattle.em_kernel.specs.declared.did.End.TheVariants.{Horizon, Quiet, Lines, Lapped as LappedEnd}
use Rattle.em_kernel.specs.Run.{run_steps}
use Rattle.em_plain.specs.Runs.{Went, On, Full, Misfit as MisfitWent, plain_run, state_of}
use Rattle.em_ports.specs.Ports.{Places}
use Rattle.em_run.specs.declared.commands.Command.{Command}
use Rattle.em_run.specs.declared.commands.Command.TheVariants.{Run, Trial, Replay, List as ListCode, Hint, Bench}
use Rattle.em_run.specs.declared.status.Status.{Status}
use Rattle.em_run.specs.declared.status.Status.TheVariants.{Done, Usage, ReadFault, WriteFault, TooLong, Malformed, Lapped, Misfit, NoMemory}
use Rattle.em_hint.specs.Lines.{hinted_text}
use Rattle.em_run.specs.Unhinted.{unhinted}
use Rattle.em_run.specs.Output.{IsAnswerTo, IsBenchOutput, IsOutput, IsOutputOf, IsRefusalText, IsReplay, IsReplayOutput, IsRunOutput, is_replay, refusal_text, status_of}
use Rattle.em_run.specs.Runs.{bench_text, cause_in, end_word, misfit_text, ports_after, replay_text, run_text}

-- what holds of the bytes of bundles: they stand for one application or have one refusal
pub record BundleLaws : Type 0 where
  pub some : (replay : Bool) (bytes : List ℕ) → ((app : App) × IsApplicationFor replay bytes app) ⊎ ((refusal : Refusal) × IsBundleRefusedFor replay bytes refusal)
  pub app : (replay : Bool) (bytes : List ℕ) (one other : App) → IsApplicationFor replay bytes one → IsApplicationFor replay bytes other → one ≡ other
  pub refusal : (replay : Bool) (bytes : List ℕ) (one other : Refusal) → IsBundleRefusedFor replay bytes one → IsBundleRefusedFor replay bytes other → one ≡ other
  pub either : (replay : Bool) (bytes : List ℕ) (app : App) (refusal : Refusal) → IsApplicationFor replay bytes app → IsBundleRefusedFor replay bytes refusal → ⊥

-- what holds of listings: code words have one
pub record ListingLaws : Type 0 where
  pub some : (words : List ℕ) → (text : List ℕ) × IsListing words text
  pub same : (words one other : List ℕ) → IsListing words one → IsListing words other → one ≡ other

-- ---- there is an answer

abbrev Answer : Command → List ℕ → Places → Type 0
Answer command bytes before =
    (status : Status) × (text : List ℕ) × (after : Places) × (status ≢ NoMemory) × IsAnswerTo command bytes before status text after

-- the output of a command is due, by its status
by_status : (command : Command) (bytes : List ℕ) (before : Places) (end : Option End) (text : List ℕ) (after : Places)
    → IsOutputOf command bytes before (status_of end) text after → Answer command bytes before
by_status command bytes before None text after out = (Done, text, after, (λ e. absurd (cc)), out)
by_status command bytes before (Some Horizon) text after out = (Done, text, after, (λ e. absurd (cc)), out)
by_status command bytes before (Some Quiet) text after out = (Done, text, after, (λ e. absurd (cc)), out)
by_status command bytes before (Some Lines) text after out = (Done, text, after, (λ e. absurd (cc)), out)
by_status command bytes before (Some (LappedEnd message noted begun)) text after out = (Lapped, text, after, (λ e. absurd (cc)), out)

ran : (app : App) (before : Places) → IsRunOutput app before (status_of (cause_in (run_steps app before))) (run_text app before) (ports_after app before)
ran app before = record { status_is = refl; text_is = refl; ports_are = refl }

benched : (n : ℕ) (app : App) (before : Places)
    → IsBenchOutput n app before (status_of (cause_in (run_steps app before))) (bench_text n app before) (ports_after app before)
benched n app before = record { status_is = refl; text_is = refl; ports_are = refl }

-- the output of a replay is due, by how far it went
replayed : (bytes : List ℕ) (before : Places) (app : App) → IsApplicationFor true bytes app → (schedule : Schedule) → app.schedule ≡ Some schedule
    → (went : Went) → plain_run (unhinted app) before schedule ≡ went → Answer Replay bytes before
replayed bytes before app stands schedule given (On p count) e = (
  Done,
  replay_text p.lines (end_word false) count,
  p.ports,
  (λ same. absurd (cc)),
  record {
    app = app;
    stands = stands;
    output = record {
      schedule = schedule;
      given = given;
      replays = subst (λ went. IsReplay went Done (replay_text p.lines (end_word false) count)) (sym e) (refl, refl);
      ports_are = ap (λ went. (state_of went).ports) (sym e);
    };
  },
)
replayed bytes before app stands schedule given (Full p count) e = (
  Done,
  replay_text p.lines (end_word true) count,
  p.ports,
  (λ same. absurd (cc)),
  record {
    app = app;
    stands = stands;
    output = record {
      schedule = schedule;
      given = given;
      replays = subst (λ went. IsReplay went Done (replay_text p.lines (end_word true) count)) (sym e) (refl, refl);
      ports_are = ap (λ went. (state_of went).ports) (sym e);
    };
  },
)
replayed bytes before app stands schedule given (MisfitWent p count) e = (
  Misfit,
  misfit_text count,
  p.ports,
  (λ same. absurd (cc)),
  record {
    app = app;
    stands = stands;
    output = record {
      schedule = schedule;
      given = given;
      replays = subst (λ went. IsReplay went Misfit (misfit_text count)) (sym e) (refl, refl);
      ports_are = ap (λ went. (state_of went).ports) (sym e);
    };
  },
)

by_schedule : (bytes : List ℕ) (before : Places) (app : App) → IsApplicationFor true bytes app → (found : Option Schedule) → app.schedule ≡ found
    → IsScheduled true (parts_of (lines bytes)) app.table found → Answer Replay bytes before
by_schedule bytes before app stands None given scheduled = absurd scheduled
by_schedule bytes before app stands (Some schedule) given scheduled =
    replayed bytes before app stands schedule given (plain_run (unhinted app) before schedule) refl

of_app : ListingLaws → (command : Command) (bytes : List ℕ) (before : Places) (app : App) → IsApplicationFor (is_replay command) bytes app → Answer command bytes before
of_app listings Run bytes before app stands =
    by_status Run bytes before (cause_in (run_steps (unhinted app) before)) (run_text (unhinted app) before) (ports_after (unhinted app) before)
    record { app = app; stands = stands; output = ran (unhinted app) before }
of_app listings Trial bytes before app stands =
    by_status Trial bytes before (cause_in (run_steps (unhinted app) before)) (run_text (unhinted app) before) (ports_after (unhinted app) before)
    record { app = app; stands = stands; output = ran (unhinted app) before }
of_app listings Replay bytes before app stands = by_schedule bytes before app stands app.schedule refl stands.stands.schedule
of_app listings ListCode bytes before app stands =
    let (text, listing) = listings.some app.image.words in
    by_status ListCode bytes before None text before
    record { app = app; stands = stands; output = record { status_is = refl; text_is = listing; ports_stay = refl } }
of_app listings Hint bytes before app stands =
    by_status Hint bytes before None (hinted_text app.hints app.image.waits (app.code_line + 1) (lines app.code_text)) before
    record { app = app; stands = stands; output = record { status_is = refl; text_is = refl; ports_stay = refl } }
of_app listings (Bench n) bytes before app stands =
    by_status (Bench n) bytes before (cause_in (run_steps (unhinted app) before)) (bench_text n (unhinted app) before) (ports_after (unhinted app) before)
    record { app = app; stands = stands; output = benched n (unhinted app) before }

refused : (command : Command) (bytes : List ℕ) (before : Places) (refusal : Refusal) → IsBundleRefusedFor (is_replay command) bytes refusal → Answer command bytes before
refused command bytes before refusal h =
    (Malformed, refusal_text refusal.code refusal.line, before, (λ e. absurd (cc)), (record { refusal = refusal; refused = h; names = refl }, refl))

-- a status, a text and ports are due, beside want of memory
pub some_answer : BundleLaws → ListingLaws → (command : Command) (bytes : List ℕ) (before : Places)
    → (status : Status) × (text : List ℕ) × (after : Places) × (status ≢ NoMemory) × IsAnswerTo command bytes before status text after
some_answer bundles listings command bytes before = elim (bundles.some (is_replay command) bytes) [
  | inl stands ↦ of_app listings command bytes before stands.0 stands.1
  | inr refusal ↦ refused command bytes before refusal.0 refusal.1
]

-- ---- there is no other

-- two statuses, texts and ports are the same
abbrev AreSame : Status → Status → List ℕ → List ℕ → Places → Places → Type 0
AreSame one other text other_text after other_after = (one ≡ other) × (text ≡ other_text) × (after ≡ other_after)

-- how far a plain run went gives one status and one text
same_replay : (went : Went) (one other : Status) (text other_text : List ℕ) → IsReplay went one text → IsReplay went other other_text
    → (one ≡ other) × (text ≡ other_text)
same_replay (On p count) one other text other_text h k = (h.0 ∙ sym k.0, h.1 ∙ sym k.1)
same_replay (Full p count) one other text other_text h k = (h.0 ∙ sym k.0, h.1 ∙ sym k.1)
same_replay (MisfitWent p count) one other text other_text h k = (h.0 ∙ sym k.0, h.1 ∙ sym k.1)

same_schedule : (one other : Schedule) → Some one ≡ Some other → one ≡ other
same_schedule one other e = cc

same_replays : (app : App) (before : Places) (one other : Status) (text other_text : List ℕ) (after other_after : Places)
    → IsReplayOutput app before one text after → IsReplayOutput app before other other_text other_after → AreSame one other text other_text after other_after
same_replays app before one other text other_text after other_after h k =
    let same : k.schedule ≡ h.schedule = same_schedule k.schedule h.schedule (sym k.given ∙ h.given) in
    let replays = subst (λ schedule. IsReplay (plain_run app before schedule) other other_text) same k.replays in
    let (status, text_is) = same_replay (plain_run app before h.schedule) one other text other_text h.replays replays in
    (status, text_is, h.ports_are ∙ ap (λ schedule. (state_of (plain_run app before schedule)).ports) (sym same) ∙ sym k.ports_are)

same_output : ListingLaws → (command : Command) (app : App) (before : Places) (one other : Status) (text other_text : List ℕ) (after other_after : Places)
    → IsOutput command app before one text after → IsOutput command app before other other_text other_after → AreSame one other text other_text after other_after
same_output listings Run app before one other text other_text after other_after h k =
    (h.status_is ∙ sym k.status_is, h.text_is ∙ sym k.text_is, h.ports_are ∙ sym k.ports_are)
same_output listings Trial app before one other text other_text after other_after h k =
    (h.status_is ∙ sym k.status_is, h.text_is ∙ sym k.text_is, h.ports_are ∙ sym k.ports_are)
same_output listings Replay app before one other text other_text after other_after h k =
    same_replays (unhinted app) before one other text other_text after other_after h k
same_output listings ListCode app before one other text other_text after other_after h k =
    (h.status_is ∙ sym k.status_is, listings.same app.image.words text other_text h.text_is k.text_is, h.ports_stay ∙ sym k.ports_stay)
same_output listings Hint app before one other text other_text after other_after h k =
    (h.status_is ∙ sym k.status_is, h.text_is ∙ sym k.text_is, h.ports_stay ∙ sym k.ports_stay)
same_output listings (Bench n) app before one other text other_text after other_after h k =
    (h.status_is ∙ sym k.status_is, h.text_is ∙ sym k.text_is, h.ports_are ∙ sym k.ports_are)

same_output_of : BundleLaws → ListingLaws → (command : Command) (bytes : List ℕ) (before : Places) (one other : Status) (text other_text : List ℕ) (after other_after : Places)
    → IsOutputOf command bytes before one text after → IsOutputOf command bytes before other other_text other_after
    → AreSame one other text other_text after other_after
same_output_of bundles listings command bytes before one other text other_text after other_after h k =
    same_output listings command h.app before one other text other_text after other_after h.output
    (subst (λ app. IsOutput command app before other other_text other_after) (bundles.app (is_replay command) bytes k.app h.app k.stands h.stands) k.output)

-- bytes don't both stand for an application and have a refusal, by what is due for them
output_or_refusal : {A : Type 0} → BundleLaws → (command : Command) (bytes : List ℕ) (before : Places) (status : Status) (one other : List ℕ) (after : Places)
    → IsOutputOf command bytes before status one after → IsRefusalText command bytes other → A
output_or_refusal laws command bytes before status one other after out named =
    absurd (laws.either (is_replay command) bytes out.app named.refusal out.stands named.refused)

-- a status, a text and ports that are due beside want of memory are the only ones
pub same_answer : BundleLaws → ListingLaws → (command : Command) (bytes : List ℕ) (before : Places) (one other : Status) → one ≢ NoMemory → other ≢ NoMemory
    → (text other_text : List ℕ) (after other_after : Places) → IsAnswerTo command bytes before one text after → IsAnswerTo command bytes before other other_text other_after
    → (one ≡ other) × (text ≡ other_text) × (after ≡ other_after)
same_answer bundles listings command bytes before Done Done m n text other_text after other_after h k =
    same_output_of bundles listings command bytes before Done Done text other_text after other_after h k
same_answer bundles listings command bytes before Done Lapped m n text other_text after other_after h k =
    same_output_of bundles listings command bytes before Done Lapped text other_text after other_after h k
same_answer bundles listings command bytes before Done Misfit m n text other_text after other_after h k =
    same_output_of bundles listings command bytes before Done Misfit text other_text after other_after h k
same_answer bundles listings command bytes before Lapped Done m n text other_text after other_after h k =
    same_output_of bundles listings command bytes before Lapped Done text other_text after other_after h k
same_answer bundles listings command bytes before Lapped Lapped m n text other_text after other_after h k =
    same_output_of bundles listings command bytes before Lapped Lapped text other_text after other_after h k
same_answer bundles listings command bytes before Lapped Misfit m n text other_text after other_after h k =
    same_output_of bundles listings command bytes before Lapped Misfit text other_text after other_after h k
same_answer bundles listings command bytes before Misfit Done m n text other_text after other_after h k =
    same_output_of bundles listings command bytes before Misfit Done text other_text after other_after h k
same_answer bundles listings command bytes before Misfit Lapped m n text other_text after other_after h k =
    same_output_of bundles listings command bytes before Misfit Lapped text other_text after other_after h k
same_answer bundles listings command bytes before Misfit Misfit m n text other_text after other_after h k =
    same_output_of bundles listings command bytes before Misfit Misfit text other_text after other_after h k
same_answer bundles listings command bytes before Malformed Malformed m n text other_text after other_after (h, stay) (k, other_stay) =
    (refl, h.names ∙ ap (λ r. refusal_text r.code r.line) (bundles.refusal (is_replay command) bytes h.refusal k.refusal h.refused k.refused) ∙ sym k.names, stay ∙ sym other_stay)
same_answer bundles listings command bytes before Done Malformed m n text other_text after other_after h k =
    output_or_refusal bundles command bytes before Done text other_text after h k.0
same_answer bundles listings command bytes before Lapped Malformed m n text other_text after other_after h k =
    output_or_refusal bundles command bytes before Lapped text other_text after h k.0
same_answer bundles listings command bytes before Misfit Malformed m n text other_text after other_after h k =
    output_or_refusal bundles command bytes before Misfit text other_text after h k.0
same_answer bundles listings command bytes before Malformed Done m n text other_text after other_after h k =
    output_or_refusal bundles command bytes before Done other_text text other_after k h.0
same_answer bundles listings command bytes before Malformed Lapped m n text other_text after other_after h k =
    output_or_refusal bundles command bytes before Lapped other_text text other_after k h.0
same_answer bundles listings command bytes before Malformed Misfit m n text other_text after other_after h k =
    output_or_refusal bundles command bytes before Misfit other_text text other_after k h.0
same_answer bundles listings command bytes before NoMemory other m n text other_text after other_after h k = absurd (m refl)
same_answer bundles listings command bytes before one NoMemory m n text other_text after other_after h k = absurd (n refl)
same_answer bundles listings command bytes before Usage other m n text other_text after other_after h k = absurd h
same_answer bundles listings command bytes before ReadFault other m n text other_text after other_after h k = absurd h
same_answer bundles listings command bytes before WriteFault other m n text other_text after other_after h k = absurd h
same_answer bundles listings command bytes before TooLong other m n text other_text after other_after h k = absurd h
same_answer bundles listings command bytes before one Usage m n text other_text after other_after h k = absurd k
same_answer bundles listings command bytes before one ReadFault m n text other_text after other_after h k = absurd k
same_answer bundles listings command bytes before one WriteFault m n text other_text after other_after h k = absurd k
same_answer bundles listings command bytes before one TooLong m n text other_text after other_after h k = absurd k
