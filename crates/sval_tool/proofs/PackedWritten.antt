-- What is written of the bytes that were made of a document.
use Rattle.std.specs.Prelude.{◌≡◌, ℕ, List, [], ◌++◌, Result, Ok, Err, refl}
use Rattle.std.proofs.Common.{sym, ap, subst, ◌∙◌, inl}
use Rattle.sval_core.specs.Trees.{Tree}
use Rattle.sval_io.specs.Sinks.{Told, WritesWhole, WritesFront}
use Rattle.sval_io.specs.Taken.{Taken}
use Rattle.sval_io.specs.declared.sink.SinkError.{SinkError}
use Rattle.sval_io.specs.declared.sink.SinkError.TheVariants as sink
use Rattle.sval_json.specs.Json.{Json}
use Rattle.sval_cbor.specs.Packs.{PackRefusal, NotInteger, map_packed, pack_of}
use Rattle.sval_cbor.specs.Cbor.{cbor}
use Rattle.sval_cbor.specs.SinkErrors.{cbor_error_of}
use Rattle.sval_tool.specs.PackedDocuments.{WritesPacked, StopsInPacked, WritesPackedTree}
use Rattle.sval_tool.specs.TokenBytes.{MaybeBytes, TookBytes}

packed_from : (found : Result Json PackRefusal) (bytes : List ℕ) → Ok bytes ≡ map_packed cbor found → (json : Json) × (found ≡ Ok json) × (bytes ≡ cbor json)
packed_from (Ok json) bytes e = (json, refl, cc e)
packed_from (Err why) bytes e = cc e

refused_from : (found : Result Json PackRefusal) → Err NotInteger ≡ map_packed cbor found → found ≡ Err NotInteger
refused_from (Ok json) e = cc e
refused_from (Err other) e = let same : NotInteger ≡ other = cc e in ap Err (sym same)

-- a number isn't whole
pub not_packed : (tree : Tree) (due : MaybeBytes) → due ≡ map_packed cbor (pack_of tree) → due ≡ Err NotInteger → pack_of tree ≡ Err NotInteger
not_packed tree due e t = refused_from (pack_of tree) (sym t ∙ e)

module _ (tree : Tree) (due : MaybeBytes) (begun made : Taken) (e : due ≡ map_packed cbor (pack_of tree)) (t : TookBytes due begun made) (empty : begun.bytes ≡ []) where
  -- what was made is what the tree packs to
  made_is : (json : Json) × (pack_of tree ≡ Ok json) × (t.bytes ≡ cbor json)
  made_is = packed_from (pack_of tree) t.bytes (sym t.are ∙ e)

  same_bytes : made.bytes ≡ cbor made_is.0
  same_bytes = t.took ∙ ap (λ (x : List ℕ). x ++ t.bytes) empty ∙ made_is.2

  pub whole_written : (old new : Told) → WritesWhole old made.bytes new → WritesPacked tree old new
  whole_written old new w = record { json = made_is.0; packs = made_is.1; writes = subst (λ (bytes : List ℕ). WritesWhole old bytes new) same_bytes w }

  front_of : (why : SinkError) (old new : Told) → WritesFront why old made.bytes new → StopsInPacked why tree old new
  front_of why old new w = record { json = made_is.0; packs = made_is.1; stops = subst (λ (bytes : List ℕ). WritesFront why old bytes new) same_bytes w }

  pub part_written : {K : Type 0} (told : K → Told) (why : SinkError) (old new : K) → WritesFront why (told old) made.bytes (told new) → WritesPackedTree told tree (Err (cbor_error_of why)) old new
  part_written told sink.Failed old new w = front_of sink.Failed (told old) (told new) w
  part_written told sink.NoMemory old new w = inl (front_of sink.NoMemory (told old) (told new) w)
