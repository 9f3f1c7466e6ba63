-- A run under xterm logs something; and where each of its clusters is put plainly, it is one change.
use Rattle.std.proofs.Common.{◌≡◌, ℕ, ◌+◌, ◌*◌, ◌<◌, ◌≤◌, Bool, true, false, List, [], ◌∷◌, ◌++◌, fold, length, map, drop, IsUtf8, refl, sym, ap, subst, ◌∙◌, append_assoc, arith, length-append}
use Rattle.std.specs.Prelude.{◌-◌, ◌==◌, ◌&&◌, ◌||◌, not, nat_le, nat_lt, Option, Some, None, if◌then◌else◌}
use Rattle.std.specs.Cmp.{unsigned_Decides}
use Rattle.std.specs.List.{concat}
use Rattle.std.proofs.lemmas.Bool.{and_parts, le-leb, le-ltb}
use Rattle.std.proofs.lemmas.Bool.Decides.{nat_tests}
use Rattle.unicode_segmentation.specs.Grapheme.{graphemes}
use Rattle.text_clusters.proofs.PlainLemmas.{graphemes-nil}
use Rattle.text_clusters.proofs.TextLemmas.{joined_clusters, same_at_clusters}
use Rattle.cell_base.specs.Cluster.{clusters}
use Rattle.cell_base.specs.Row.{columns_of, space}
use Rattle.cell_base.specs.Screen.{Screen, IsScreen, carriage_return, cluster_columns, height, line_feed, put, write_columns}
use Rattle.cell_base.proofs.LawfulScreens.{put_is}
use Rattle.cell_base.proofs.PlainClusters.{clusters_are}
use Rattle.screen_effects.specs.Display.{Display, IsDisplay}
use Rattle.terminal_table.specs.Changes.{run_change}
use Rattle.terminal_table.specs.Functions.{Moves, NextRow, Right}
use Rattle.terminal_table.specs.Modes.{Modes, Region, region_on}
use Rattle.terminal_table.specs.Request.{Request, Table, Xterm}
use Rattle.terminal_table.specs.RunTurns.{IsAlike, IsRunning}
use Rattle.terminal_table.specs.Runs.{Running, asked, changes_asked, columns_for, fits, insert_request, is_put_plainly, prepared, put_next, run_begun, run_done, screen_alone, screen_asked, text_changes, text_put, with_cluster, wrap_request}
use Rattle.terminal_table.specs.State.{IsState}
use Rattle.terminal_table.specs.RunText.{IsRunText}
use Rattle.terminal_table.specs.Xterm.{InsertCharacters, NextLine, xterm_screen}
use Rattle.terminal_table.specs.Feeds.{feeds_plainly, is_default, next_line_request, scrolls_plainly}
use Rattle.terminal_table.proofs.ClusterLemmas.{AreRunTexts, clusters_run}
use Rattle.terminal_table.proofs.ListLemmas.{append_nil}
use Rattle.terminal_table.proofs.RunningLemmas.{begun_runs, next_runs, put_alike, text_put_runs}
use Rattle.terminal_table.proofs.StreamLemmas.{put_width}
use Rattle.terminal_table.proofs.XtermLemmas.{xterm_follows}
use Rattle.terminal_steps.proofs.FrameLemmas.{scrolls_on}
use Rattle.xterm_steps.proofs.LedLemmas.{led_some}

-- ---- clusters have bytes

-- each of some texts has a byte
abbrev pub AreSome : List (List ℕ) → Type 0
AreSome [] = Unit {0}
AreSome (text ∷ texts) = (0 < length text) × AreSome texts

abbrev first_of : List Bool → Bool
first_of [] = true
first_of (b ∷ bs) = b

pub some_byte : (text : List ℕ) → (length text == 0) ≡ false → 0 < length text
some_byte [] e = cc
some_byte (byte ∷ bytes) e = omega arith

some_each : (texts : List (List ℕ)) → map (λ (t : List ℕ). length t == 0) texts ≡ map (λ (t : List ℕ). false) texts → AreSome texts
some_each [] e = tt
some_each (text ∷ texts) e = (some_byte text (ap first_of e), some_each texts (ap (drop 1) e))

alone_some : (text : List ℕ) → graphemes true text ≡ text ∷ [] → (length text == 0) ≡ false
alone_some [] e = let none = sym graphemes-nil ∙ e in cc
alone_some (byte ∷ bytes) e = grind (arith, nat_tests)

pub clusters_some : (text : List ℕ) → IsUtf8 text → AreSome (clusters text)
clusters_some text u = subst AreSome (sym (clusters_are text u)) (some_each (graphemes true text) (same_at_clusters (λ t. length t == 0) (λ t. false) alone_some text u))

pub clusters_join : (text : List ℕ) → IsUtf8 text → concat (clusters text) ≡ text
clusters_join text u = ap concat (clusters_are text u) ∙ joined_clusters text u

pub some_of : (text : List ℕ) → (text ≡ [] → ⊥) → 0 < length text
some_of [] h = absurd (h refl)
some_of (byte ∷ bytes) h = omega arith

-- ---- a run logs something

module _ (width_of : List ℕ → ℕ) where
  -- what is asked for where a cluster doesn't fit, and where columns are inserted
  wrap_some : (modes : Modes) (columns : ℕ) (s : Screen) → IsState width_of (screen_alone s) → fits columns s ≡ false → 0 < length (changes_asked (wrap_request modes columns s) s)
  wrap_some modes columns s h e = rw e (by_wrap modes.autowrap)
    where
      region : Region
      region = region_on modes s

      by_feed : (plain : Bool) → 0 < length (changes_asked (Some (if plain then Table NextRow else Xterm (NextLine region))) s)
      by_feed true = omega arith
      by_feed false = led_some width_of s (xterm_screen (NextLine region) s) (xterm_follows width_of (NextLine region) (screen_alone s) h)

      by_wrap : (wraps : Bool) → 0 < length (changes_asked (if wraps then Some (next_line_request region s) else Some (Table (Moves (Right 0)))) s)
      by_wrap true = by_feed (feeds_plainly region s)
      by_wrap false = omega arith

  insert_some : (modes : Modes) (columns : ℕ) (s : Screen) → IsState width_of (screen_alone s) → modes.insert ≡ true → fits columns s ≡ true → 0 < length (changes_asked (insert_request modes columns s) s)
  insert_some modes columns s h i e = rw i (rw e (led_some width_of s (xterm_screen (InsertCharacters columns) s) (xterm_follows width_of (InsertCharacters columns) (screen_alone s) h)))

  -- changes are only added
  asked_grows : (request : Option Request) (run : Running) → length run.changes + length (changes_asked request run.led) ≤ length (asked request run).changes
  asked_grows request run = let all = length-append run.changes (changes_asked request run.led) in omega (arith, all)

  pub put_grows : (run : Running) → length run.changes + length (text_changes run.text) ≤ length (text_put width_of run).changes
  put_grows run = let all = length-append run.changes (text_changes run.text) in omega (arith, all)

  pub wrap_grows : (modes : Modes) (columns : ℕ) (run : Running) → length (asked (wrap_request modes columns run.led) run).changes ≤ length (prepared modes columns run).changes
  wrap_grows modes columns run =
      let wrapped : Running = asked (wrap_request modes columns run.led) run in
      let more = asked_grows (insert_request modes columns wrapped.led) wrapped in
      omega (arith, more)

  pub prepared_grows : (modes : Modes) (columns : ℕ) (run : Running) → length run.changes ≤ length (prepared modes columns run).changes
  prepared_grows modes columns run =
      let one = asked_grows (wrap_request modes columns run.led) run in
      let other = wrap_grows modes columns run in
      omega (arith, one, other)

  pub next_grows : (modes : Modes) (run : Running) (cluster : List ℕ) → length run.changes ≤ length (put_next modes width_of run cluster).changes
  next_grows modes run cluster =
      let put = put_grows run in
      let ready = prepared_grows modes columns (text_put width_of run) in
      by_plain (omega (arith, put, ready)) (is_put_plainly modes columns run.screen) (fits columns (prepared modes columns (text_put width_of run)).led)
    where
      columns : ℕ
      columns = columns_for width_of run.screen cluster

      by_plain : length run.changes ≤ length (prepared modes columns (text_put width_of run)).changes → (plain fit : Bool)
          → length run.changes ≤ length (if plain then with_cluster width_of run cluster else if fit then with_cluster width_of (prepared modes columns (text_put width_of run)) cluster else prepared modes columns (text_put width_of run)).changes
      by_plain h true fit = omega arith
      by_plain h false true = h
      by_plain h false false = h

  pub all_grow : (modes : Modes) (texts : List (List ℕ)) (run : Running) → length run.changes ≤ length (fold (put_next modes width_of) run texts).changes
  all_grow modes [] run = omega arith
  all_grow modes (text ∷ texts) run =
      let one = next_grows modes run text in
      let more = all_grow modes texts (put_next modes width_of run text) in
      omega (arith, one, more)

  -- ---- which way the next cluster goes

  module _ (modes : Modes) (run : Running) (cluster : List ℕ) (k : ℕ) (takes : k ≡ columns_for width_of run.screen cluster) where
    by_columns : ℕ → Running
    by_columns n = if is_put_plainly modes n run.screen then with_cluster width_of run cluster else if fits n (prepared modes n (text_put width_of run)).led then with_cluster width_of (prepared modes n (text_put width_of run)) cluster else prepared modes n (text_put width_of run)

    pub next_plain : true ≡ is_put_plainly modes k run.screen → put_next modes width_of run cluster ≡ with_cluster width_of run cluster
    unfolding by_columns
    next_plain p = ap by_columns (sym takes) ∙ ap (λ (b : Bool). if b then with_cluster width_of run cluster else if fits k (prepared modes k (text_put width_of run)).led then with_cluster width_of (prepared modes k (text_put width_of run)) cluster else prepared modes k (text_put width_of run)) (sym p)

    pub next_fits : false ≡ is_put_plainly modes k run.screen → true ≡ fits k (prepared modes k (text_put width_of run)).led → put_next modes width_of run cluster ≡ with_cluster width_of (prepared modes k (text_put width_of run)) cluster
    unfolding by_columns
    next_fits p q = ap by_columns (sym takes) ∙ (λ i. if sym p i then with_cluster width_of run cluster else if sym q i then with_cluster width_of (prepared modes k (text_put width_of run)) cluster else prepared modes k (text_put width_of run))

    pub next_over : false ≡ is_put_plainly modes k run.screen → false ≡ fits k (prepared modes k (text_put width_of run)).led → put_next modes width_of run cluster ≡ prepared modes k (text_put width_of run)
    unfolding by_columns
    next_over p q = ap by_columns (sym takes) ∙ (λ i. if sym p i then with_cluster width_of run cluster else if sym q i then with_cluster width_of (prepared modes k (text_put width_of run)) cluster else prepared modes k (text_put width_of run))

    pub next_ready : false ≡ is_put_plainly modes k run.screen → length (prepared modes k (text_put width_of run)).changes ≤ length (put_next modes width_of run cluster).changes
    next_ready p = by_fit (fits k (prepared modes k (text_put width_of run)).led) refl
      where
        by_fit : (b : Bool) → b ≡ fits k (prepared modes k (text_put width_of run)).led → length (prepared modes k (text_put width_of run)).changes ≤ length (put_next modes width_of run cluster).changes
        by_fit true q = let same = ap (λ (r : Running). length r.changes) (next_fits p q) in omega (arith, same)
        by_fit false q = let same = ap (λ (r : Running). length r.changes) (next_over p q) in omega (arith, same)

  -- there is a change, or clusters that become one
  abbrev IsBegun : Running → Type 0
  IsBegun run = 0 < length run.changes + length run.text

  with_some : (run : Running) (cluster : List ℕ) → 0 < length cluster → IsBegun (with_cluster width_of run cluster)
  with_some run cluster h = let all = length-append run.text cluster in omega (arith, h, all)

  -- where a cluster still doesn't fit, something was asked for
  asked_some : (modes : Modes) (columns : ℕ) (run : Running) → IsState width_of (screen_alone run.led) → fits columns (prepared modes columns run).led ≡ false → 0 < length (prepared modes columns run).changes
  asked_some modes columns run h over = by_fit (fits columns run.led) refl modes.insert refl
    where
      wrapped : Running
      wrapped = asked (wrap_request modes columns run.led) run

      by_fit : (fit : Bool) → fits columns run.led ≡ fit → (inserts : Bool) → modes.insert ≡ inserts → 0 < length (prepared modes columns run).changes
      by_fit false e inserts i =
          let one = wrap_some modes columns run.led h e in
          let more = asked_grows (wrap_request modes columns run.led) run in
          let last = wrap_grows modes columns run in
          omega (arith, one, more, last)
      by_fit true e inserts i =
          let same : wrapped.led ≡ run.led = ap (λ (b : Bool). screen_asked (if b then None else if modes.autowrap then Some (next_line_request (region_on modes run.led) run.led) else Some (Table (Moves (Right 0)))) run.led) e in
          by_insert same e inserts i
        where
          by_insert : wrapped.led ≡ run.led → fits columns run.led ≡ true → (inserts : Bool) → modes.insert ≡ inserts → 0 < length (prepared modes columns run).changes
          by_insert same e true i =
              let one = subst (λ (s : Screen). 0 < length (changes_asked (insert_request modes columns s) s)) (sym same) (insert_some modes columns run.led h i e) in
              let more = asked_grows (insert_request modes columns wrapped.led) wrapped in
              omega (arith, one, more)
          by_insert same e false i =
              let still : (prepared modes columns run).led ≡ wrapped.led = ap (λ (b : Bool). screen_asked (if b && fits columns wrapped.led then Some (Xterm (InsertCharacters columns)) else None) wrapped.led) i in
              let clash : true ≡ false = sym e ∙ ap (fits columns) (sym (still ∙ same)) ∙ over in cc

  -- a cluster is put, or something is asked for before it
  next_some : (modes : Modes) (run : Running) (cluster : List ℕ) → IsState width_of (screen_alone (text_put width_of run).led) → 0 < length cluster → IsBegun (put_next modes width_of run cluster)
  next_some modes run cluster h some = by_plain (is_put_plainly modes columns run.screen) (fits columns ready.led) refl
    where
      columns : ℕ
      columns = columns_for width_of run.screen cluster

      ready : Running
      ready = prepared modes columns (text_put width_of run)

      by_plain : (plain fit : Bool) → fits columns ready.led ≡ fit → IsBegun (if plain then with_cluster width_of run cluster else if fit then with_cluster width_of ready cluster else ready)
      by_plain true fit e = with_some run cluster some
      by_plain false true e = with_some ready cluster some
      by_plain false false e = let asked = asked_some modes columns (text_put width_of run) h e in omega (arith, asked)

  put_some : (run : Running) → IsBegun run → 0 < length (text_put width_of run).changes
  put_some run h = by_text run.text h
    where
      by_text : (text : List ℕ) → 0 < length run.changes + length text → 0 < length (run.changes ++ text_changes text)
      by_text [] g = let all = length-append run.changes [] in omega (arith, g, all)
      by_text (byte ∷ bytes) g = let all = length-append run.changes (run_change (byte ∷ bytes) ∷ []) in omega (arith, all)

  -- a run with a byte, on a display of the screen
  module _ (d : Display) (before : Screen) (modes : Modes) where
    all_some : (texts : List (List ℕ)) (run : Running) → AreRunTexts texts → AreSome texts → IsRunning width_of d before run → IsBegun run → IsBegun (fold (put_next modes width_of) run texts)
    all_some [] run t some h begun = begun
    all_some (text ∷ texts) run t some h begun =
        all_some texts (put_next modes width_of run text) t.1 some.1 (next_runs width_of d before modes run text h t.0)
        (next_some modes run text (text_put_runs width_of d before run h).state some.0)

    pub run_some : (text : List ℕ) → IsRunText text → 0 < length text → IsState width_of (screen_alone before) → IsDisplay d → d.screen ≡ before → 0 < length (run_done modes width_of before text).changes
    run_some text t some h shown same =
        put_some (fold (put_next modes width_of) (run_begun before) (clusters text))
        (first (clusters text) (clusters_run text t) (clusters_some text t.utf8) (subst (λ (bytes : List ℕ). 0 < length bytes) (sym (clusters_join text t.utf8)) some) (begun_runs width_of d before h shown same))
      where
        first : (texts : List (List ℕ)) → AreRunTexts texts → AreSome texts → 0 < length (concat texts) → IsRunning width_of d before (run_begun before) → IsBegun (fold (put_next modes width_of) (run_begun before) texts)
        first [] t some n h = absurd (omega arith)
        first (text ∷ texts) t some n h =
            all_some texts (put_next modes width_of (run_begun before) text) t.1 some.1 (next_runs width_of d before modes (run_begun before) text h t.0)
            (next_some modes (run_begun before) text (text_put_runs width_of d before (run_begun before) h).state some.0)

  -- ---- where each cluster is put plainly

  abbrev pub ArePlain : Modes → Screen → List (List ℕ) → Type 0
  ArePlain modes s [] = Unit {0}
  ArePlain modes s (text ∷ texts) = (is_put_plainly modes (columns_for width_of s text) s ≡ true) × ArePlain modes (put width_of s text) texts

  plain_fold : (modes : Modes) (texts : List (List ℕ)) (run : Running) → ArePlain modes run.screen texts
      → fold (put_next modes width_of) run texts ≡ record run { text = run.text ++ concat texts; screen = fold (put width_of) run.screen texts }
  plain_fold modes [] run plain = λ i. record run { text = sym (append_nil run.text) i }
  plain_fold modes (text ∷ texts) run plain =
      let columns : ℕ = columns_for width_of run.screen text in
      let ready : Running = prepared modes columns (text_put width_of run) in
      let next : put_next modes width_of run text ≡ with_cluster width_of run text = ap (λ (b : Bool). if b then with_cluster width_of run text else if fits columns ready.led then with_cluster width_of ready text else ready) plain.0 in
      ap (λ (r : Running). fold (put_next modes width_of) r texts) next
      ∙ plain_fold modes texts (with_cluster width_of run text) plain.1
      ∙ (λ i. record run { text = append_assoc run.text text (concat texts) i; screen = fold (put width_of) (put width_of run.screen text) texts })

  -- it is one change
  pub plain_run : (modes : Modes) (s : Screen) (text : List ℕ) → IsUtf8 text → 0 < length text → ArePlain modes s (clusters text) → (run_done modes width_of s text).changes ≡ run_change text ∷ []
  plain_run modes s text u some plain =
      ap (λ (r : Running). (text_put width_of r).changes) (plain_fold modes (clusters text) (run_begun s) plain)
      ∙ ap text_changes (clusters_join text u)
      ∙ one text some
    where
      one : (text : List ℕ) → 0 < length text → text_changes text ≡ run_change text ∷ []
      one [] h = absurd (omega arith)
      one (byte ∷ bytes) h = refl

  -- it scrolls as on a plain terminal
  module _ (modes : Modes) (before : Screen) (inserts : modes.insert ≡ false) (wraps : modes.autowrap ≡ true) (scrolls : scrolls_plainly (region_on modes before) before ≡ true) where
    feeds : (s : Screen) → IsScreen s → scrolls_plainly (region_on modes s) s ≡ true → feeds_plainly (region_on modes s) s ≡ true
    feeds s h e =
        let parts = and_parts ((region_on modes s).top == 0 && (region_on modes s).bottom == height s - 1) (is_default s.pen.background) e in
        let more = and_parts ((region_on modes s).top == 0) ((region_on modes s).bottom == height s - 1) parts.0 in
        let last : (region_on modes s).bottom ≡ height s - 1 = (unsigned_Decides (region_on modes s).bottom (height s - 1)).0 more.1 in
        by_row (s.row == (region_on modes s).bottom) refl last
      where
        by_row : (b : Bool) → (s.row == (region_on modes s).bottom) ≡ b → (region_on modes s).bottom ≡ height s - 1 → (if b then scrolls_plainly (region_on modes s) s else nat_lt s.row (height s - 1)) ≡ true
        by_row true r last = e
        by_row false r last =
            let inside = h.row_in in
            let other : s.row ≡ (region_on modes s).bottom → ⊥ = λ (same : s.row ≡ (region_on modes s).bottom). let yes = (unsigned_Decides s.row (region_on modes s).bottom).1 same in cc in
            let differs : s.row ≡ height s - 1 → ⊥ = λ (same : s.row ≡ height s - 1). other (same ∙ sym last) in
            grind (arith, nat_tests, inside, differs)

    pub plainly_everywhere : (texts : List (List ℕ)) (s : Screen) → IsScreen s → IsAlike before s → ArePlain modes s texts
    plainly_everywhere [] s h a = tt
    plainly_everywhere (text ∷ texts) s h a =
        let columns : ℕ = columns_for width_of s text in
        let still : scrolls_plainly (region_on modes s) s ≡ true = sym (scrolls_on modes before s a) ∙ scrolls in
        let plain : is_put_plainly modes columns s ≡ true = (λ i. not (inserts i) && (fits columns s || (wraps i && feeds s h still i))) ∙ by_fit (fits columns s) in
        let next = put_alike width_of s text h in
        (plain, plainly_everywhere texts (put width_of s text) (put_is width_of s text h) (record { wide = next.wide ∙ a.wide; tall = next.tall ∙ a.tall; pen = next.pen ∙ a.pen }))
      where
        by_fit : (b : Bool) → (b || true) ≡ true
        by_fit true = refl
        by_fit false = refl

  -- the cursor's row has two columns for each byte
  columns_most : (s : Screen) (cluster : List ℕ) → columns_for width_of s cluster ≤ 2
  columns_most s cluster = by_wide (nat_le 2 (width_of cluster) && nat_lt 1 s.width)
    where
      by_wide : (wide : Bool) → length (columns_of (if nat_le 2 (width_of cluster) && s.width == 1 then space else cluster) wide s.pen) ≤ 2
      by_wide true = omega arith
      by_wide false = omega arith

  pub plainly_in_row : (modes : Modes) (texts : List (List ℕ)) (s : Screen) → modes.insert ≡ false → AreSome texts → s.column + 2 * length (concat texts) ≤ s.width → ArePlain modes s texts
  plainly_in_row modes [] s i some room = tt
  plainly_in_row modes (text ∷ texts) s i some room =
      let columns : ℕ = columns_for width_of s text in
      let most = columns_most s text in
      let all = length-append text (concat texts) in
      let one = some.0 in
      let within : s.column + columns ≤ s.width = omega (arith, most, all, one, room) in
      let fit : fits columns s ≡ true = le-leb (s.column + columns) s.width within in
      let over : nat_lt s.width (s.column + columns) ≡ false = le-ltb s.width (s.column + columns) within in
      let stays : (put width_of s text).column ≡ s.column + columns = ap (λ (b : Bool). (write_columns (cluster_columns width_of s text) (if b then carriage_return (line_feed s) else s)).column) over in
      let wide : (put width_of s text).width ≡ s.width = put_width width_of s text in
      let rest : (put width_of s text).column + 2 * length (concat texts) ≤ (put width_of s text).width = omega (arith, stays, wide, most, all, one, room) in
      ((λ j. not (i j) && (fit j || (modes.autowrap && feeds_plainly (region_on modes s) s))), plainly_in_row modes texts (put width_of s text) i some.1 rest)
