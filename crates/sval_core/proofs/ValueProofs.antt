-- How a value of your own is proved, and a stream of your own. The crate `readings` does all of it.
--
-- Say in `specs/` which calls the value makes. Where it never refuses, its emission is `makes calls`; the words for texts, parts and
-- containers stand in `specs/ValueCalls.antt`. Calls one after another, each with a `?`, then need no proof at all.
--
-- A loop over parts wants one function for a part, whose clause says what a part makes, as `Emits S.law result (S.standing stream.old)
-- (makes (item_calls calls x.now)) (S.standing stream.new)`; an invariant, that begin and the parts so far were streamed, as
-- `Streams law old (makes (begin ∷ flat_map (item_calls calls) (take l.x-index l.x-items))) new`; and on the function that loops
-- `#[tactic(auto, using(sval_core::proofs::ValueProofs::of_loops))]`.
pub use Rattle.sval_core.proofs.Loops.{of_loops, streams_next, stops_next, emits_rest}
--
-- A loop over numbers reads one as `get_or xs i (pos 0)`, where the lemmas ask for `get_or xs i x`: std's `get_or_default` makes the one of
-- the other, in answers of their own for the loop's two goals, which `streams_next` and `stops_next` prove.
--
-- A value of unlike parts, or of others that may refuse, has an emission of `specs/Values.antt`: `part_emission` and `container_emission`
-- round emissions that `then_emits` joins. Stream each part by a function of its own, and give what it makes a word that is `unfoldable`,
-- opened on that function alone by `unfolding(crate::specs::Module::word)`: where a clause has `makes ..` or an abbreviation in place of a
-- word, that computes away, and the rulesets find nothing to join. Then a function that streams a value between a begin and its end wants
-- `using(.. of_between)`, and one part after another `using(.. of_emissions)`. `unfolding then_emits emits` turns such an emission into the
-- calls that the lemmas on trees below speak of. In a loop the five lemmas for parts of `Joining` close one goal each.
pub use Rattle.sval_core.proofs.Emissions.{of_emissions, passes_on}
pub use Rattle.sval_core.proofs.Between.{of_between}
pub use Rattle.sval_core.proofs.Joining.{streams_no_parts, streams_part, stops_at_part, streams_after_parts, stops_after_parts}
-- That the calls spell a tree, where the value gives the sizes: a lemma for each word of `specs/ValueCalls.antt`. Such a value is one whole
-- value to whoever checks it, and has the text of its tree in JSON.
pub use Rattle.sval_core.proofs.ToldCalls.{null_call_tells, truth_call_tells, int_call_tells, text_calls_tell, binary_calls_tell, no_calls_tell, part_calls_tell, last_part_tells, container_calls_tell, seq_calls_tell}
-- What a stream of your own has taken after a value: the fold of its law over the value's calls. One that accepts all calls refuses only
-- where the value does.
pub use Rattle.sval_core.proofs.Folds.{streams_folds, stops_by_value}
