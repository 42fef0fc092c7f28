use Rattle.std.proofs.Common.{refl, sym, ◌∙◌}
use Rattle.saw_link.proofs.Steps.{ok_map, due_waiting, answers_moved, answers_acts}
use Rattle.saw_link.specs.LinkConversation.{Answers}
use Rattle.saw_link.proofs.Stops.{err_map, answers_asking, none_answers, sent_answers, troubled_unanswered, unacted_troubled}
use Rattle.saw_link.proofs.moves.go_on.Goals as goal

pub returns-clause-moved : goal.returns-clause-moved
returns-clause-moved g c =
    let said = c.in_ok-said in
    let s = c.args.standing.now in
    let L = g.L.Link in
    ok_map c.take_turn.result (λ legal.
    answers_moved (L.told c.args.link.now) (L.told c.answer_asked.new.link) s c.take_turn.new.standing _ _ said.said.frame _ said.said.heard
    refl said.ensures.heard said.ensures.adds said.ensures.within c.in-Some.asked.now c.in-Some.ensures.asked c.args.reply.now refl refl legal
    (due_waiting s c.in-Some.asked.now c.args.reply.now c.requires.still c.in-Some.ensures.asked c.in-Some.ensures.last c.requires.fits))
    c.take_turn.ensures.answered

pub returns-clause-acts : goal.returns-clause-acts
returns-clause-acts g c tells =
    let said = c.in_ok-said in
    let s = c.args.standing.now in
    let L = g.L.Link in
    ok_map c.take_turn.result (λ legal spelled.
    answers_acts (L.told c.args.link.now) (L.told c.answer_asked.new.link) s c.take_turn.new.standing _ _ said.said.frame _ said.said.heard
    refl said.ensures.heard said.ensures.adds said.ensures.within c.in-Some.asked.now c.in-Some.ensures.asked c.args.reply.now refl refl legal
    (due_waiting s c.in-Some.asked.now c.args.reply.now c.requires.still c.in-Some.ensures.asked c.in-Some.ensures.last c.requires.fits)
    L.next (said.ensures.whole tells) (said.ensures.obeys tells) spelled)
    c.take_turn.ensures.answered

pub returns-clause-unanswered : goal.returns-clause-unanswered
returns-clause-unanswered g c =
    let said = c.in_ok-said in
    let s = c.args.standing.now in
    let L = g.L.Link in
    let due = due_waiting s c.in-Some.asked.now c.args.reply.now c.requires.still c.in-Some.ensures.asked c.in-Some.ensures.last c.requires.fits in
    err_map c.take_turn.result (λ trouble unacted.
    troubled_unanswered (L.told c.args.link.now) (L.told c.answer_asked.new.link) s c.args.reply.now due trouble
    (unacted_troubled (Answers c.args.reply.now) (answers_asking c.args.reply.now) (L.told c.args.link.now) (L.told c.answer_asked.new.link) s _
    (sent_answers s c.in-Some.asked.now c.args.reply.now _ c.in-Some.ensures.asked refl)
    trouble said.said.heard said.said.frame said.ensures.within (λ e. sym said.ensures.heard ∙ e)
    (none_answers s c.args.reply.now said.said.frame said.said.heard said.ensures.heard) said.ensures.adds unacted))
    c.take_turn.ensures.unacted
