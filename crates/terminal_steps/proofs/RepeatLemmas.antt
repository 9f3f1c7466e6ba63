-- The last cluster of a run, put again.
use Rattle.std.proofs.Common.{◌≡◌, ℕ, zero, suc, ◌+◌, ◌<◌, ◌≤◌, ◌^◌, true, false, List, [], ◌∷◌, ◌++◌, length, fold, refl, sym, ap, subst, ◌∙◌, arith, append_assoc, length-append}
use Rattle.std.specs.Prelude.{⊤, Result, Ok, Err, Some, IfOk, IsErrOf}
use Rattle.cell_base.specs.Cluster.{clusters}
use Rattle.cell_base.specs.Screen.{Screen, put}
use Rattle.cell_surface.specs.Surface.{Surface, number_of, shown_by}
use Rattle.cell_surface.specs.declared.error.SurfaceError.{SurfaceError}
use Rattle.cell_surface.specs.declared.error.SurfaceError.TheVariants.{Failed, Memory, Number}
use Rattle.screen_change.specs.ChangeValue.{ChangeValue}
use Rattle.screen_effects.specs.Display.{Display, IsDisplay}
use Rattle.screen_effects.specs.Effect.{replay}
use Rattle.terminal_table.specs.Modes.{Modes}
use Rattle.terminal_table.specs.RunTurns.{IsRunning}
use Rattle.terminal_table.specs.Runs.{Running, changes_repeated, last_cluster, put_again, put_next, run_begun, run_done, screen_alone, text_put}
use Rattle.terminal_table.specs.State.{HasLast, IsState}
use Rattle.terminal_table.proofs.ListLemmas.{append_nil}
use Rattle.terminal_table.proofs.RunLemmas.{no_clusters}
use Rattle.terminal_table.proofs.RunningLemmas.{done_runs, last_runs}
use Rattle.xterm_steps.specs.Additions.{AddsAll, AddsWith}
use Rattle.terminal_steps.specs.RunView.{CanBePut}
use Rattle.terminal_steps.proofs.RunLemmas.{number_is, then_adds}
use Rattle.terminal_steps.proofs.WholeRunLemmas.{run_some, some_of}

-- ---- no cluster

-- an empty run does nothing
empty_put : (modes : Modes) (f : List ℕ → ℕ) (s : Screen) → run_done modes f s [] ≡ run_begun s
empty_put modes f s =
    ap (λ (texts : List (List ℕ)). text_put f (fold (put_next modes f) (run_begun s) texts)) no_clusters
    ∙ (λ i. record { changes = []; led = fold (put f) s (no_clusters i); text = []; screen = fold (put f) s (no_clusters i) })

pub nothing_repeated : (modes : Modes) (f : List ℕ → ℕ) (count : ℕ) (s : Screen) → last_cluster modes.last ≡ [] → changes_repeated modes f count s ≡ []
nothing_repeated modes f zero s e = refl
nothing_repeated modes f (suc count) s e =
    let one : put_again modes f s ≡ run_begun s = ap (run_done modes f s) e ∙ empty_put modes f s in
    ap (λ (run : Running). run.changes ++ changes_repeated modes f count run.led) one ∙ nothing_repeated modes f count s e

pub none_repeated : (modes : Modes) (f : List ℕ → ℕ) (count : ℕ) (s : Screen) → count ≡ 0 → changes_repeated modes f count s ≡ []
none_repeated modes f count s e = ap (λ n. changes_repeated modes f n s) e

-- ---- one after another

module _ {W : Type 0} (width_of : W → List ℕ → ℕ) (modes : Modes) where
  abbrev cluster : List ℕ
  cluster = last_cluster modes.last

  -- some changes were added, and so many clusters are left
  pub record IsAgain (before now : Surface W) (count left : ℕ) : Type 0 where
    pub changes : List ChangeValue
    pub added : AddsAll width_of before now changes
    pub can : CanBePut width_of now cluster
    pub fits : number_of before < 2 ^ 64 → number_of now < 2 ^ 64
    pub rest : changes_repeated modes (width_of before.grid.widths) count (shown_by before).screen ≡ changes ++ changes_repeated modes (width_of before.grid.widths) left (shown_by now).screen

  pub again_begun : (before : Surface W) (count : ℕ) → before.is_failed ≡ false → CanBePut width_of before cluster → IsAgain before before count count
  again_begun before count stays can = record {
    changes = [];
    added = record { shown = refl; widths = refl; log = refl; stays = stays };
    can = can;
    fits = λ h. h;
    rest = refl;
  }

  -- what the next one adds, by the widths of the first surface
  put_adds : (before now next : Surface W) (count left : ℕ) (result : Result ⊤ SurfaceError) (a : IsAgain before now count left) → AddsWith true width_of now (run_done modes (width_of now.grid.widths) (shown_by now).screen cluster).changes result next
      → AddsWith true width_of now (put_again modes (width_of before.grid.widths) (shown_by now).screen).changes result next
  put_adds before now next count left result a adds = subst (λ (w : W). AddsWith true width_of now (put_again modes (width_of w) (shown_by now).screen).changes result next) a.added.widths adds

  pub again_next : (before now next : Surface W) (count left more : ℕ) (result : Result ⊤ SurfaceError) → left ≡ suc more → result ≡ Ok tt → IsAgain before now count left
      → AddsWith true width_of now (run_done modes (width_of now.grid.widths) (shown_by now).screen cluster).changes result next → IsAgain before next count more
  again_next before now next count left more result one ok a adds =
      let of : List ℕ → ℕ = width_of before.grid.widths in
      let s : Screen = (shown_by now).screen in
      let put : Running = put_again modes of s in
      let here = subst (λ (r : Result ⊤ SurfaceError). AddsWith true width_of now put.changes r next) ok (put_adds before now next count left result a adds) in
      let runs = done_runs (width_of now.grid.widths) (shown_by now) s modes cluster a.can.printed a.can.state a.can.shown refl in
      let led : (shown_by next).screen ≡ put.led
      = ap (λ (d : Display). d.screen) here.added.shown ∙ subst (λ (w : W). (replay (width_of now.grid.widths) (shown_by now) (put_again modes (width_of w) s).changes).screen ≡ (put_again modes (width_of w) s).led) a.added.widths runs.turns.screen in
      record {
        changes = a.changes ++ put.changes;
        added = then_adds width_of before now next a.changes put.changes a.added here.added;
        can = record {
          state = subst (λ (s : Screen). IsState (width_of next.grid.widths) (screen_alone s)) (sym led)
              (subst (λ (w : W). IsState (width_of w) (screen_alone put.led)) (sym here.added.widths)
              (subst (λ (w : W). IsState (width_of now.grid.widths) (screen_alone (put_again modes (width_of w) s).led)) a.added.widths runs.state));
          shown = subst IsDisplay (sym here.added.shown) (subst (λ (w : W). IsDisplay (replay (width_of now.grid.widths) (shown_by now) (put_again modes (width_of w) s).changes)) a.added.widths runs.shown);
          printed = a.can.printed;
        };
        fits = λ h. here.fits (a.fits h);
        rest = a.rest ∙ ap (λ n. a.changes ++ changes_repeated modes of n s) one
            ∙ sym (append_assoc a.changes put.changes (changes_repeated modes of more put.led))
            ∙ ap (λ (t : Screen). (a.changes ++ put.changes) ++ changes_repeated modes of more t) (sym led);
      }

  -- one of them is refused
  pub again_stops : (before now next : Surface W) (count left more : ℕ) (e : SurfaceError) → left ≡ suc more → (cluster ≡ [] → ⊥) → IsAgain before now count left
      → AddsWith true width_of now (run_done modes (width_of now.grid.widths) (shown_by now).screen cluster).changes (Err e) next
      → AddsWith true width_of before (changes_repeated modes (width_of before.grid.widths) count (shown_by before).screen) (Err e) next
  again_stops before now next count left more e one some a adds =
      let of : List ℕ → ℕ = width_of before.grid.widths in
      let s : Screen = (shown_by now).screen in
      let put : Running = put_again modes of s in
      let last : List ChangeValue = changes_repeated modes of more put.led in
      let here = put_adds before now next count left (Err e) a adds in
      let all : changes_repeated modes of count (shown_by before).screen ≡ a.changes ++ (put.changes ++ last) = a.rest ∙ ap (λ n. a.changes ++ changes_repeated modes of n s) one in
      let size = ap length all ∙ length-append a.changes (put.changes ++ last) in
      let rest = length-append put.changes last in
      let number = number_is width_of before now a.changes a.added in
      record {
        added = tt;
        failed = λ f. let stays = a.added.stays in let failed = here.failed f in cc;
        numbers = λ f. let past = here.numbers f in let has = past.0 in let over = past.1 in (omega (arith, size, rest, has), omega (arith, size, rest, over, number));
        memory = λ f more. cc;
        fits = tt;
      }

  -- all of them were put
  pub again_ends : (before now : Surface W) (count left : ℕ) → left ≡ 0 → IsAgain before now count left
      → AddsWith true width_of before (changes_repeated modes (width_of before.grid.widths) count (shown_by before).screen) (Ok tt) now
  again_ends before now count left none a =
      let of : List ℕ → ℕ = width_of before.grid.widths in
      let all : changes_repeated modes of count (shown_by before).screen ≡ a.changes = a.rest ∙ ap (λ n. a.changes ++ changes_repeated modes of n (shown_by now).screen) none ∙ append_nil a.changes in
      record { added = subst (AddsAll width_of before now) (sym all) a.added; failed = λ f. cc; numbers = λ f. cc; memory = λ f more. cc; fits = a.fits }

  -- something is logged where there is one
  pub again_some : (before : Surface W) (count more : ℕ) → count ≡ suc more → (cluster ≡ [] → ⊥) → CanBePut width_of before cluster
      → 0 < length (changes_repeated modes (width_of before.grid.widths) count (shown_by before).screen)
  again_some before count more one some can =
      let of : List ℕ → ℕ = width_of before.grid.widths in
      let s : Screen = (shown_by before).screen in
      let put : Running = put_again modes of s in
      let first = run_some of (shown_by before) s modes cluster can.printed (some_of cluster some) can.state can.shown refl in
      let all = ap (λ n. length (changes_repeated modes of n s)) one ∙ length-append put.changes (changes_repeated modes of more put.led) in
      omega (arith, first, all)
