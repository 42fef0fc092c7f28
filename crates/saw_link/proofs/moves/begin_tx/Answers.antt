use Rattle.std.proofs.Common.{◌≡◌, ◌+◌, rules, List, Some, refl, sym, ◌∙◌, subst}
use Rattle.std.specs.Fmt.{decimal}
use Rattle.saw_messages.specs.declared.talk.Turn.{Turn}
use Rattle.saw_messages.specs.declared.transaction.Transaction.{Transaction}
use Rattle.saw_link.specs.LinkConversation.{Begins, Moved, acted}
use Rattle.saw_link.proofs.Steps.{ok_map, begins_moved, begins_acts}
use Rattle.saw_link.specs.Troubles.{Troubled}
use Rattle.saw_link.proofs.Stops.{err_map, begins_asking, none_begins, said_at_count, sent_begins, unacted_troubled, unasked_troubled}
use Rattle.saw_link.proofs.moves.begin_tx.Goals as goal

pub returns-clause-moved : goal.returns-clause-moved
returns-clause-moved g c =
    let said = c.in-Ok-ask_about in
    let s = c.args.standing.now in
    let kept = c.in-Ok.kept in
    let L = g.L.Link in
    let P : List Turn → Type 0 = λ turns. acted s kept turns c.in-Some.count said.said.heard ≡ Some c.act.new.standing in
    let Q : Transaction → Type 0 = λ tx. Moved (L.told c.args.link.now) s (Begins tx) (L.told c.ask_about.new.link) c.act.new.standing in
    ok_map c.act.result (λ legal.
    subst Q c.in-Ok.ensures.kept
    (begins_moved _ _ s _ _ _ said.said.frame _ said.said.heard refl said.ensures.heard said.ensures.adds said.ensures.within
    kept c.in-Some.count (search (rules, c.in-Some.ensures)) refl refl (subst P c.new.ensures legal) c.requires.due))
    c.act.ensures.acted

pub returns-clause-acts : goal.returns-clause-acts
returns-clause-acts g c tells =
    let said = c.in-Ok-ask_about in
    let s = c.args.standing.now in
    let kept = c.in-Ok.kept in
    let L = g.L.Link in
    let P : List Turn → Type 0 = λ turns. acted s kept turns c.in-Some.count said.said.heard ≡ Some c.act.new.standing in
    ok_map c.act.result (λ legal spelled.
    begins_acts _ (L.told c.ask_about.new.link) s _ _ _ said.said.frame _ said.said.heard refl said.ensures.heard said.ensures.adds said.ensures.within
    kept c.in-Some.count (search (rules, c.in-Some.ensures)) refl refl (subst P c.new.ensures legal) c.requires.due
    L.next (said.ensures.whole tells) (said.ensures.obeys tells) spelled)
    c.act.ensures.acted

pub returns-in-Err-clause-troubled : goal.returns-in-Err-clause-troubled
returns-in-Err-clause-troubled g c =
    let s = c.args.standing.now in
    let kept = c.in-Ok.kept in
    let L = g.L.Link in
    let Q : Transaction → Type 0 = λ tx. Troubled c.in-Err.trouble (L.told c.args.link.now) s (Begins tx) (L.told c.ask_about.new.link) in
    subst Q c.in-Ok.ensures.kept
    (unasked_troubled (Begins kept) (begins_asking kept) _ _ s _
    (sent_begins s kept c.in-Some.count (decimal c.in-Some.count) _ (search (rules, c.in-Some.ensures)) refl refl) c.in-Err.trouble _ refl c.in-Err.ensures.unspoken)

pub returns-clause-troubled : goal.returns-clause-troubled
returns-clause-troubled g c =
    let said = c.in-Ok-ask_about in
    let s = c.args.standing.now in
    let kept = c.in-Ok.kept in
    let L = g.L.Link in
    let heard_here = said_at_count s _ (decimal c.in-Some.count) said.said.frame said.said.heard c.in-Some.count (s.count + 1) refl said.ensures.heard refl
    (search (rules, c.in-Some.ensures)) in
    err_map c.act.result (λ trouble unacted.
    let Q : Transaction → Type 0 = λ tx. Troubled trouble (L.told c.args.link.now) s (Begins tx) (L.told c.ask_about.new.link) in
    subst Q c.in-Ok.ensures.kept
    (unacted_troubled (Begins kept) (begins_asking kept) _ _ s _
    (sent_begins s kept c.in-Some.count (decimal c.in-Some.count) _ (search (rules, c.in-Some.ensures)) refl refl)
    trouble said.said.heard said.said.frame said.ensures.within (λ e. sym heard_here ∙ e) (none_begins s kept said.said.frame said.said.heard heard_here)
    said.ensures.adds unacted))
    c.act.ensures.unacted
