-- The encoding of changes that each have one reads back from its bytes.
use Rattle.std.proofs.Common.{◌≡◌, ℕ, List, [], ◌∷◌, sym, subst}
use Rattle.std.specs.Prelude.{Some}
use Rattle.cell_base.specs.ScreenSize.{IsScreenSize}
use Rattle.screen_change.specs.ChangeValue.{ChangeValue}
use Rattle.escape_stream.specs.StreamAction.{StreamAction}
use Rattle.escape_stream.specs.StreamWritable.{IsWritable}
use Rattle.terminal_render.specs.Carried.{RenderingsAreWritable}
use Rattle.terminal_render.specs.Lists.{all_rendered, WritableListsJoin}
use Rattle.terminal_render.specs.Rendering.{rendering}
use Rattle.terminal_render.proofs.ListLemmas.{parts}
use Rattle.terminal_render.specs.Spelling.{HaveEncodings}

pub spelled_writable : RenderingsAreWritable → WritableListsJoin → (width height : ℕ) (changes : List ChangeValue) (actions : List StreamAction) → IsScreenSize width height
    → HaveEncodings width height changes → all_rendered changes width height ≡ Some actions → IsWritable actions
spelled_writable writable join width height [] actions size s e = let none : [] ≡ actions = cc in subst IsWritable none tt
spelled_writable writable join width height (change ∷ changes) actions size s e =
    let p = parts (rendering change width height) (all_rendered changes width height) actions e in
    subst IsWritable (sym p.are)
    (join p.first p.remaining (writable change width height p.first s.0.of_code size p.found_is) (spelled_writable writable join width height changes p.remaining size s.1 p.rest_is))
