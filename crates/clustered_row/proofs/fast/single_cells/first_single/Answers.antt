use Rattle.std.proofs.Common.{◌∙◌, sym}
use Rattle.clustered_row.proofs.AloneLemmas.{begins_so, first_of, first_seam, independent_stands}
use Rattle.clustered_row.proofs.fast.single_cells.first_single.Goals as goal

pub returns-then-has_narrow_ascii-clause-cut : goal.returns-then-has_narrow_ascii-clause-cut
returns-then-has_narrow_ascii-clause-cut g c =
    let text = c.args.text.now in
    let p = c.begins_printable.ensures.first c.if-begins_printable.true in
    first_seam text text text p.character 1 c.utf8.text (first_of text p.character 1 p.begins)

pub returns-then-has_narrow_ascii-clause-alone : goal.returns-then-has_narrow_ascii-clause-alone
returns-then-has_narrow_ascii-clause-alone g c =
    let text = c.args.text.now in
    let p = c.begins_printable.ensures.first c.if-begins_printable.true in
    begins_so text text text p.character 1 c.utf8.text (first_of text p.character 1 p.begins) (independent_stands p.character p.begins.stands)

pub returns-in-Some-clause-cut : goal.returns-in-Some-clause-cut
returns-in-Some-clause-cut g c =
    let text = c.args.text.now in
    first_seam text text text c.in_ok-character.character c.in_ok-character.len c.utf8.text c.in_ok-character.ensures.begins

pub returns-in-Some-clause-alone : goal.returns-in-Some-clause-alone
returns-in-Some-clause-alone g c =
    let text = c.args.text.now in
    begins_so text text text c.in_ok-character.character c.in_ok-character.len c.utf8.text c.in_ok-character.ensures.begins
    (independent_stands c.in_ok-character.character c.in-Some.ensures.independent)

pub returns-then-stands_alone-clause-cut : goal.returns-then-stands_alone-clause-cut
returns-then-stands_alone-clause-cut g c =
    let text = c.args.text.now in
    first_seam text text text c.in_ok-character.character c.in_ok-character.len c.utf8.text c.in_ok-character.ensures.begins

pub returns-then-stands_alone-clause-alone : goal.returns-then-stands_alone-clause-alone
returns-then-stands_alone-clause-alone g c =
    let text = c.args.text.now in
    begins_so text text text c.in_ok-character.character c.in_ok-character.len c.utf8.text c.in_ok-character.ensures.begins
    (sym c.stands_alone.ensures ∙ c.if-stands_alone.true)
