use Rattle.std.proofs.Common.{sym, ◌∙◌, true≢false}
use Rattle.saw_messages.proofs.SameTxs.{by-bytes, by-headers, by-ids}
use Rattle.saw_messages.proofs.tx.Tx.is_same.Goals.{then-eq, else-eq}
use Rattle.saw_messages.proofs.tx.Tx.is_same.Goals as goal

pub returns-then-eq-2 : goal.returns-then-eq-2
returns-then-eq-2 c = elim c.if-eq.branch [
  | then-eq w ↦
      rw (← c.self.view_is, ← c.other.view_is) (by-bytes (record { id = c.self.inside.id; header = c.self.inside.header; header_bytes = c.self.inside.header_bytes; payload = c.self.inside.payload })
      (record { id = c.other.inside.id; header = c.other.inside.header; header_bytes = c.other.inside.header_bytes; payload = c.other.inside.payload })
      _ c.self.invariant c.other.invariant (sym c.eq.ensures ∙ w.if-eq.true) (sym w.eq-then-eq.ensures ∙ (sym w.value-is ∙ c.if-eq-2.true)) c.eq-then-eq-2.ensures)
  | else-eq w ↦ absurd (true≢false (sym c.if-eq-2.true ∙ (w.value-is ∙ w.if-eq.false)))
]

pub returns-else-eq-2 : goal.returns-else-eq-2
returns-else-eq-2 c = elim c.if-eq.branch [
  | then-eq w ↦
      rw (← c.self.view_is, ← c.other.view_is) (c.if-eq-2.false ∙ by-headers (record { id = c.self.inside.id; header = c.self.inside.header; header_bytes = c.self.inside.header_bytes; payload = c.self.inside.payload })
      (record { id = c.other.inside.id; header = c.other.inside.header; header_bytes = c.other.inside.header_bytes; payload = c.other.inside.payload })
      (sym w.eq-then-eq.ensures ∙ (sym w.value-is ∙ c.if-eq-2.false)))
  | else-eq w ↦
      rw (← c.self.view_is, ← c.other.view_is) (w.value-is ∙ (w.if-eq.false ∙ by-ids (record { id = c.self.inside.id; header = c.self.inside.header; header_bytes = c.self.inside.header_bytes; payload = c.self.inside.payload })
      (record { id = c.other.inside.id; header = c.other.inside.header; header_bytes = c.other.inside.header_bytes; payload = c.other.inside.payload })
      (sym c.eq.ensures ∙ w.if-eq.false)))
]
