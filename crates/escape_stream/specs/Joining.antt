-- Definitions for the private functions that join an action with the last of a list.
use Rattle.std.specs.Prelude.{◌≡◌, List, [], ◌∷◌, ◌++◌, Bool, true, false, ◌&&◌}
use Rattle.escape_stream.specs.StreamAction.{StreamAction, print_string, is_print, printed, appended}

-- two prints became one, or nothing changed, as they are not both prints
abbrev pub JoinsPair : StreamAction → StreamAction → Bool → StreamAction → Type 0
JoinsPair last next true after =
    (is_print last && is_print next ≡ true) × (after ≡ print_string (printed last ++ printed next))
JoinsPair last next false after = (is_print last && is_print next ≡ false) × (after ≡ last)

-- a print was joined with the last action of a list, or nothing changed and the action follows the list
abbrev pub JoinsLast : List StreamAction → StreamAction → Bool → List StreamAction → Type 0
JoinsLast before next true after = after ≡ appended before next
JoinsLast before next false after = (after ≡ before) × (appended before next ≡ before ++ next ∷ [])
