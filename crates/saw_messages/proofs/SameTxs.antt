-- Two transactions are the same where their bytes are: the headers are those of the bytes.
use Rattle.std.proofs.Common.{◌≡◌, ℕ, Bool, true, false, ◌&&◌, List, [], ◌∷◌, Ok, refl, sym, ap, ap₂, ◌∙◌, bytes_eq, true≢false}
use Rattle.std.proofs.lemmas.Slice.Eq.{bytes_eq-Decides}
use Rattle.saw_messages.specs.Transactions.{transaction_header}
use Rattle.saw_messages.specs.TxEquality.{header_eq, texts_eq, tx_eq}
use Rattle.saw_messages.specs.TxShapes.{TxShape, header_by}
use Rattle.saw_messages.specs.declared.transaction.TransactionHeader.{TransactionHeader}

pub bytes-self : (xs : List ℕ) → bytes_eq xs xs ≡ true
bytes-self xs = (bytes_eq-Decides xs xs).1 refl

texts-self : (texts : List (List ℕ)) → texts_eq texts texts ≡ true
texts-self [] = refl
texts-self (text ∷ texts) = rw (bytes-self text, texts-self texts) refl

header-self : (h : TransactionHeader) → header_eq h h ≡ true
header-self h =
    rw (
      bytes-self h.batcher_public_key,
      texts-self h.dependencies,
      bytes-self h.family_name,
      bytes-self h.family_version,
      texts-self h.inputs,
      bytes-self h.nonce,
      texts-self h.outputs,
      bytes-self h.payload_sha512,
      bytes-self h.signer_public_key,
    ) refl

-- a transaction whose header was read from its bytes
abbrev pub IsRead : TxShape → Type 0
IsRead tx = transaction_header tx.header_bytes ≡ Ok tx.header

headers-alike : (s t : TxShape) → IsRead s → IsRead t → bytes_eq s.header_bytes t.header_bytes ≡ true → header_eq s.header t.header ≡ true
headers-alike s t a b e =
    let same : s.header_bytes ≡ t.header_bytes = (bytes_eq-Decides s.header_bytes t.header_bytes).0 e in
    let read : s.header ≡ t.header = ap header_by (sym a ∙ (ap transaction_header same ∙ b)) in
    rw read (header-self t.header)

pub by-bytes : (s t : TxShape) (r : Bool) → IsRead s → IsRead t → bytes_eq s.id t.id ≡ true → bytes_eq s.header_bytes t.header_bytes ≡ true
    → r ≡ bytes_eq s.payload t.payload → r ≡ tx_eq s t
unfolding tx_eq
by-bytes s t r a b ids e payloads = rw (ids, headers-alike s t a b e, e) payloads

pub by-ids : (s t : TxShape) → bytes_eq s.id t.id ≡ false → false ≡ tx_eq s t
unfolding tx_eq
by-ids s t e = rw e refl

pub by-headers : (s t : TxShape) → bytes_eq s.header_bytes t.header_bytes ≡ false → false ≡ tx_eq s t
unfolding tx_eq
by-headers s t e = go (bytes_eq s.id t.id) (header_eq s.header t.header)
  where
    go : (i h : Bool) → false ≡ (i && (h && (bytes_eq s.header_bytes t.header_bytes && bytes_eq s.payload t.payload)))
    go true true = rw e refl
    go true false = refl
    go false h = refl

-- ---- what is found the same is the same

and-left : (a b : Bool) → (a && b) ≡ true → a ≡ true
and-left true b e = refl
and-left false b e = e

and-right : (a b : Bool) → (a && b) ≡ true → b ≡ true
and-right true b e = e
and-right false b e = absurd (true≢false (sym e))

bytes-same : (xs ys : List ℕ) → bytes_eq xs ys ≡ true → xs ≡ ys
bytes-same xs ys e = (bytes_eq-Decides xs ys).0 e

texts-same : (xs ys : List (List ℕ)) → texts_eq xs ys ≡ true → xs ≡ ys
texts-same [] [] e = refl
texts-same [] (y ∷ ys) e = absurd (true≢false (sym e))
texts-same (x ∷ xs) [] e = absurd (true≢false (sym e))
texts-same (x ∷ xs) (y ∷ ys) e = ap₂ ◌∷◌ (bytes-same x y (and-left _ _ e)) (texts-same xs ys (and-right _ _ e))

headers-same : (h k : TransactionHeader) → header_eq h k ≡ true → h ≡ k
headers-same h k e0 =
    let e1 = and-right (bytes_eq h.batcher_public_key k.batcher_public_key) _ e0 in
    let e2 = and-right (texts_eq h.dependencies k.dependencies) _ e1 in
    let e3 = and-right (bytes_eq h.family_name k.family_name) _ e2 in
    let e4 = and-right (bytes_eq h.family_version k.family_version) _ e3 in
    let e5 = and-right (texts_eq h.inputs k.inputs) _ e4 in
    let e6 = and-right (bytes_eq h.nonce k.nonce) _ e5 in
    let e7 = and-right (texts_eq h.outputs k.outputs) _ e6 in
    let e8 = and-right (bytes_eq h.payload_sha512 k.payload_sha512) _ e7 in
    λ i. record {
      batcher_public_key = bytes-same h.batcher_public_key k.batcher_public_key (and-left (bytes_eq h.batcher_public_key k.batcher_public_key) _ e0) i;
      dependencies = texts-same h.dependencies k.dependencies (and-left (texts_eq h.dependencies k.dependencies) _ e1) i;
      family_name = bytes-same h.family_name k.family_name (and-left (bytes_eq h.family_name k.family_name) _ e2) i;
      family_version = bytes-same h.family_version k.family_version (and-left (bytes_eq h.family_version k.family_version) _ e3) i;
      inputs = texts-same h.inputs k.inputs (and-left (texts_eq h.inputs k.inputs) _ e4) i;
      nonce = bytes-same h.nonce k.nonce (and-left (bytes_eq h.nonce k.nonce) _ e5) i;
      outputs = texts-same h.outputs k.outputs (and-left (texts_eq h.outputs k.outputs) _ e6) i;
      payload_sha512 = bytes-same h.payload_sha512 k.payload_sha512 (and-left (bytes_eq h.payload_sha512 k.payload_sha512) _ e7) i;
      signer_public_key = bytes-same h.signer_public_key k.signer_public_key e8 i;
    }

-- transactions of which each part is that of the other are the same
pub same-is : (s t : TxShape) → tx_eq s t ≡ true → s ≡ t
unfolding tx_eq
same-is s t e =
    let e1 = and-right (bytes_eq s.id t.id) _ e in
    let e2 = and-right (header_eq s.header t.header) _ e1 in
    λ i. record {
      id = bytes-same s.id t.id (and-left (bytes_eq s.id t.id) _ e) i;
      header = headers-same s.header t.header (and-left (header_eq s.header t.header) _ e1) i;
      header_bytes = bytes-same s.header_bytes t.header_bytes (and-left (bytes_eq s.header_bytes t.header_bytes) _ e2) i;
      payload = bytes-same s.payload t.payload (and-right (bytes_eq s.header_bytes t.header_bytes) _ e2) i;
    }
