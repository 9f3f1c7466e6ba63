-- Links that OSC 8 carries (hyperlinks in terminal emulators), and texts that a stream carries as they are.
use Rattle.std.specs.Prelude.{ℕ, Bool, true, false, not, ◌&&◌, List, [], ◌∷◌, Option, Some, None, Result, Ok, Err}
use Rattle.std.specs.List.{list_all, list_any}
use Rattle.std.specs.Str.{bytes_eq}
use Rattle.std.specs.Char.{is_ascii_control}
use Rattle.text_clusters.specs.Controls.{holds_c1}
use Rattle.cell_base.specs.declared.link_error.LinkError.{LinkError}
use Rattle.cell_base.specs.Link.{Link, Param}
use Rattle.cell_base.specs.LinkText.{link_text, link_reading, fields}

-- no C0 control, no DEL, and no U+0080 to U+009F
abbrev pub is_plain_text : List ℕ → Bool
is_plain_text text = not (list_any is_ascii_control text) && not (holds_c1 text)

-- the same keys and values, in the same order
abbrev pub same_params : List Param → List Param → Bool
same_params [] [] = true
same_params [] (q ∷ qs) = false
same_params (p ∷ ps) [] = false
same_params (p ∷ ps) (q ∷ qs) = (bytes_eq p.0 q.0 && bytes_eq p.1 q.1) && same_params ps qs

-- whether a link that was read from OSC 8 equals the link; one that is read is never implicit
abbrev pub is_reading_of : Link → Result (Option Link) LinkError → Bool
is_reading_of link (Ok (Some read)) =
    (not read.implicit && not link.implicit) && (same_params read.params link.params && bytes_eq read.uri link.uri)
is_reading_of link (Ok None) = false
is_reading_of link (Err error) = false

-- whether OSC 8 with the link's text is read as the link
abbrev pub reads_back : Link → Bool
reads_back link = is_reading_of link (link_reading (fields 59 (link_text link)))

-- whether the keys and values of a link, and its URI, are plain texts
abbrev pub is_plain_param : Param → Bool
is_plain_param p = is_plain_text p.0 && is_plain_text p.1

abbrev pub has_plain_texts : Link → Bool
has_plain_texts link = list_all is_plain_param link.params && is_plain_text link.uri

-- whether OSC 8 carries the link; it always carries the end of a link
unfoldable pub is_carried : Option Link → Bool
is_carried None = true
is_carried (Some link) = reads_back link && has_plain_texts link
