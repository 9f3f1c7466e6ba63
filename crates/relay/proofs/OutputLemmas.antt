-- A writer that keeps its bytes, the cause of status 2, and the report where the status is 1.
use Rattle.std.proofs.Common.{◌≡◌, ◌≢◌, ◌⊎◌, ℕ, Bool, true, false, inl, inr, List, [], ◌∷◌, ◌++◌, Option, Some, None, sym, ◌∙◌, append-nil, ap, arith, codes, refl, subst, Result, Err}
use Rattle.std.specs.Io.KnownBytes.{Appends, Keeps}
use Rattle.std.specs.Prelude.{IfSome, IsErrOf}
use Rattle.terminal.specs.Shown.{AppendsPrefix}
use Rattle.terminal.specs.Watched.{Watched}
use Rattle.terminal.specs.declared.error.RunError.{RunError}
use Rattle.terminal.specs.declared.error.RunError.TheVariants as run
use Rattle.terminal_steps.specs.declared.error.TerminalError.TheVariants as terminal
use Rattle.clap.specs.Words.{Kinds, Text}
use Rattle.clap.specs.declared.error.kind.ErrorKind.TheVariants as kind
use Rattle.relay.specs.CommandLine.{Asked, HasMistake, IsRefusedFor, asked_in, faults_in, kind_in, live_in}
use Rattle.relay.specs.Faults.{IsReported, fault_line, fault_text}
use Rattle.relay.specs.Lent.{named}
use Rattle.relay.specs.Live.{IsLive}
use Rattle.relay.specs.Output.{MemoryRunsOut, NumbersRunOut}
use Rattle.relay.specs.Reports.{EndsWithFault, MayEndWith, ReportsFault}
use Rattle.relay.specs.declared.options.BadWords.{BadWords}
use Rattle.relay.proofs.AnswerLemmas.{memory_first}

nothing_appended : (old new : Option (List ℕ)) → Keeps old new → Appends old new []
nothing_appended None new kept = tt
nothing_appended (Some bytes) None kept = absurd kept
nothing_appended (Some bytes) (Some remaining) kept = kept ∙ sym (append-nil bytes)

-- a writer that keeps its bytes has gained an empty prefix of the output for the input
pub none_of : (old new : Option (List ℕ)) (gives : List ℕ → List ℕ) (input : Option (List ℕ)) → Keeps old new
    → IfSome input (λ bytes. AppendsPrefix old new (gives bytes))
none_of old new gives None kept = tt
none_of old new gives (Some bytes) kept =
    record { written = []; remaining = gives bytes; whole = refl; appends = nothing_appended old new kept }

-- words that are refused for one of some kinds are answered with status 2 only where one of these is a mistake
pub mistake_in : (kinds : Kinds) (bad : BadWords) (status : ℕ) → IsRefusedFor kinds bad → (kind_in bad ≡ kind.OutOfMemory → status ≡ 1)
    → ((kind_in bad ≡ kind.DisplayHelp) ⊎ (kind_in bad ≡ kind.DisplayVersion) → status ≢ 2) → status ≡ 2 → HasMistake kinds
mistake_in kinds bad status (inl none) memory shown two = let one : status ≡ 1 = memory none in absurd (omega arith)
mistake_in kinds bad status (inr among) memory shown two = (kind_in bad, among, λ h. shown (inl h) two, λ v. shown (inr v) two)

-- ---- reports

-- the fault isn't one of the writer with `--live`
abbrev IsReportedAtOnce : RunError → Bool → Type 0
IsReportedAtOnce error is_live = error ≡ run.Write → is_live ≡ false

-- a run that ended with a fault is reported with its text
pub reported_as : {F : Type 0} (contents : F → Option (List ℕ)) (old new : Watched F) (error fault : RunError) (is_live : Bool) (status code : ℕ)
    → ◌≡◌ {A = Result (Unit {0}) RunError} (Err error) (Err fault) → IsReportedAtOnce fault is_live → (IsReportedAtOnce error is_live → status ≡ code)
    → (IsReportedAtOnce error is_live → IsReported contents old new (fault_line (fault_text error)))
    → (status ≡ code) × IsReported contents old new (fault_line (fault_text fault))
reported_as contents old new error fault is_live status code e at_once one reported =
    let same : error ≡ fault = cc in
    let this : IsReportedAtOnce error is_live = λ w. at_once (sym same ∙ w) in
    (one this, subst (λ x. IsReported contents old new (fault_line (fault_text x))) same (reported this))

read_at_once : (is_live : Bool) → IsReportedAtOnce run.Read is_live
read_at_once is_live e = absurd cc

pub read_reported : {F : Type 0} (contents : F → Option (List ℕ)) (old new : Watched F) (error : RunError) (is_live : Bool) (status code : ℕ)
    → ◌≡◌ {A = Result (Unit {0}) RunError} (Err error) (Err run.Read) → (IsReportedAtOnce error is_live → status ≡ code)
    → (IsReportedAtOnce error is_live → IsReported contents old new (fault_line (fault_text error)))
    → (status ≡ code) × IsReported contents old new (fault_line (codes "cannot read"))
read_reported contents old new error is_live status code e one reported =
    reported_as contents old new error run.Read is_live status code e (read_at_once is_live) one reported

-- without `--live` a run ends with a fault with which it may end
pub fault_may_end : (words : List Text) (asked : Asked) (input left old new : Option (List ℕ)) (error : RunError) (is_live : Bool) → asked_in words ≡ asked → live_in words ≡ is_live
    → live_in words ≡ false → (is_live ≡ false → IsErrOf {T = Unit {0}} (Err error) (run.Terminal terminal.Number) → IfSome input (NumbersRunOut asked))
    → (is_live ≡ false → IsErrOf {T = Unit {0}} (Err error) (run.Terminal terminal.Memory) → IfSome input (MemoryRunsOut asked left))
    → (IsErrOf {T = Unit {0}} (Err error) (run.Terminal terminal.Failed) → ⊥)
    → (IsReportedAtOnce error is_live → AppendsPrefix old new (fault_line (fault_text error))) → IfSome input (ReportsFault words left old new)
fault_may_end words asked None left old new error is_live same live is number memory never written = tt
fault_may_end words asked (Some x) left old new error is_live same live is number memory never written =
    record { fault = error; right = right error number memory never; written = written (λ e. off) }
  where
    off : is_live ≡ false
    off = sym live ∙ is

    right : (fault : RunError) → (is_live ≡ false → IsErrOf {T = Unit {0}} (Err fault) (run.Terminal terminal.Number) → NumbersRunOut asked x)
        → (is_live ≡ false → IsErrOf {T = Unit {0}} (Err fault) (run.Terminal terminal.Memory) → MemoryRunsOut asked left x)
        → (IsErrOf {T = Unit {0}} (Err fault) (run.Terminal terminal.Failed) → ⊥) → MayEndWith fault (asked_in words) left x
    right run.Read n m f = tt
    right run.Write n m f = tt
    right run.TooLong n m f = tt
    right (run.Terminal terminal.Number) n m f = subst (λ a. NumbersRunOut a x) (sym same) (n off refl)
    right (run.Terminal terminal.Memory) n m f = subst (λ a. MemoryRunsOut a left x) (sym same) (m off refl)
    right (run.Terminal terminal.Failed) n m f = absurd (f refl)

-- options of words that are run without `--live` aren't live
pub not_live : (words : List Text) (is_live : Bool) → (IsLive words → ⊥) → faults_in words ≡ [] → live_in words ≡ is_live → is_live ≡ false
not_live words true none runs is = absurd (none (runs, is))
not_live words false none runs is = refl

-- words that can be run are refused only for want of memory
pub of_memory : (kinds : Kinds) (bad : BadWords) → IsRefusedFor kinds bad → kinds ≡ [] → kind_in bad ≡ kind.OutOfMemory
of_memory kinds bad (inl none) run = none
of_memory [] bad (inr among) run = absurd among
of_memory (k ∷ kinds) bad (inr among) run = absurd cc

-- before anything was read memory may be named
pub reports_first : (words : List Text) (old new input : Option (List ℕ)) → AppendsPrefix old new (fault_line (codes "out of memory"))
    → IfSome input (ReportsFault words input old new)
reports_first words old new None written = tt
reports_first words old new (Some bytes) written = record {
  fault = run.Terminal terminal.Memory;
  right = memory_first (asked_in words) (Some bytes);
  written = written;
}

same_name : (m n : ℕ) (old new gained : List ℕ) → n ∷ new ≡ m ∷ (old ++ gained) → (n ≡ m) × (new ≡ old ++ gained)
same_name m n old new gained e = (cc, cc)

-- bytes that are appended through a lent reference are appended to the writer: the reference still refers to it
pub lent_appends : {S : Type 0} (contents : S → Option (List ℕ)) (m n : ℕ) (before after end : S) (gained : List ℕ) → (m ≡ n → end ≡ after)
    → Appends (named m (contents before)) (named n (contents after)) gained → Appends (contents before) (contents end) gained
lent_appends contents m n before after end gained is appends = by_known (contents before) (contents after) refl appends
  where
    by_known : (old new : Option (List ℕ)) → contents after ≡ new → Appends (named m old) (named n new) gained → Appends old (contents end) gained
    by_known None new e appends = tt
    by_known (Some bytes) None e appends = absurd appends
    by_known (Some bytes) (Some held) e appends =
        let same = same_name m n bytes held gained appends in
        let held_is : contents end ≡ Some held = ap contents (is (sym same.0)) ∙ e in
        subst (λ new. Appends (Some bytes) new gained) (sym held_is) same.1

-- so it is from where the reference was lent
pub lent_on : {S : Type 0} (contents : S → Option (List ℕ)) (m n : ℕ) (first before after end : S) → first ≡ before → (m ≡ n → end ≡ after)
    → (gained : List ℕ) → Appends (named m (contents first)) (named n (contents after)) gained → Appends (contents before) (contents end) gained
lent_on contents m n first before after end same is gained appends =
    subst (λ x. Appends (contents x) (contents end) gained) same (lent_appends contents m n first after end gained is appends)

-- a fault that is reported through a lent reference is reported to the writer
pub lent_reports : {S : Type 0} (contents : S → Option (List ℕ)) (words : List Text) (left : Option (List ℕ)) (m n : ℕ) (before after end : S) (input : Option (List ℕ)) → (m ≡ n → end ≡ after)
    → IfSome input (ReportsFault words left (named m (contents before)) (named n (contents after))) → IfSome input (EndsWithFault words (contents before) (contents end))
lent_reports contents words left m n before after end None is reports = tt
lent_reports contents words left m n before after end (Some x) is reports = (
  left,
  record {
    fault = reports.fault;
    right = reports.right;
    written = record {
      written = reports.written.written;
      remaining = reports.written.remaining;
      whole = reports.written.whole;
      appends = lent_appends contents m n before after end reports.written.written is reports.written.appends;
    };
  },
)
