-- Calls of nodes that the writer has, and those that are joined behind them.
use Rattle.std.specs.Borrow.{MutBor}
use Rattle.std.specs.Prelude.{◌≡◌, ℕ, ◌+◌, ◌<◌, Bool, true, false, List, [], ◌∷◌, ◌++◌, length, drop, get_or, Option, Some, None, Result, Ok, Err, IsErr, OnOk, refl}
use Rattle.std.proofs.Common.{sym, ap, ◌∙◌, subst, append_assoc, append-nil}
use Rattle.sval_label.specs.Calls.{Call}
use Rattle.sval_label.specs.declared.error.Error.{Error}
use Rattle.sval_core.specs.Law.{Standing, Streams, Stops}
use Rattle.sval_core.specs.Values.{makes}
use Rattle.sval_json.specs.declared.style.Variants.TheVariants.{Inside}
use Rattle.sval_json.specs.Actions.{Handler, escapes, copies, reads, WriterState, Outcome, Action, continue, write, ◌sets◌, set_empty, between, first_outside, is_first_at}
use Rattle.sval_json.specs.Steps.{writer_steps}
use Rattle.sval_json.specs.WriterLaw.{WriterView, HasDone, IsLeftBy, IsStopped, Does, fresh_writer, sink_of, stop_of, writer_law, writer_view}
use Rattle.sval_json.proofs.Combined.{does_alike}
use Rattle.sval_json.proofs.Doing.{nothing_done, done_then, stopped_first, stopped_later}
use Rattle.sval_json.proofs.Refused.{steps_append}
use Rattle.sval_json.specs.ErrorKinds.{error_kind}
use Rattle.sval_json.specs.declared.error.ErrorKind.{ErrorKind}
use Rattle.sval_json.specs.declared.writer.JsonWriter.{JsonWriter}
use Rattle.sval_io.specs.Sinks.{Told}
use Rattle.sval_json.proofs.Streamed.{ran_as, Ending, refused, failed, ending_of, after_failure}
use Rattle.sval_cbor_read.specs.WrittenItems.{WritesSteps}
use Rattle.sval_json.proofs.Writing.{prepend, wrote}
use Rattle.sval_cbor_read.specs.declared.node.Node.{Node}
use Rattle.sval_cbor_read.specs.SeenNodes.{cbor_node_calls, streamed_items, NodeStands, NodesStand}
use Rattle.sval_cbor_read.specs.JoinedNodes.{WritesBetween, JoinsCalls, StandsFor, AreMade, MakesCalls}
use Rattle.sval_cbor_read.proofs.NodeStreams.{here}

-- ---- calls behind others

done_both : {start mid new : WriterView} (first more : List Call) → HasDone (writer_steps Inside first) start mid → HasDone (writer_steps Inside more) mid new → HasDone (writer_steps Inside (first ++ more)) start new
done_both {start = start} {new = new} first more d e = subst (λ action. HasDone action start new) (sym (steps_append Inside first more)) (done_then d e)

stopped_behind : {start mid new : WriterView} (first more : List Call) → HasDone (writer_steps Inside first) start mid → IsStopped (writer_steps Inside more) mid new → IsStopped (writer_steps Inside (first ++ more)) start new
stopped_behind {start = start} {new = new} first more d s = subst (λ action. IsStopped action start new) (sym (steps_append Inside first more)) (stopped_later d s)

pub stopped_before : {start new : WriterView} (first more : List Call) → IsStopped (writer_steps Inside first) start new → IsStopped (writer_steps Inside (first ++ more)) start new
stopped_before {start = start} {new = new} first more s = subst (λ action. IsStopped action start new) (sym (steps_append Inside first more)) (stopped_first (writer_steps Inside more) s)

-- what is written for calls and for others behind them
pub writes_both : (ahead more : List Call) (first mid last : Bool) (xs ys : List ℕ) → WritesBetween ahead first xs mid → WritesBetween more mid ys last → WritesBetween (ahead ++ more) first (xs ++ ys) last
writes_both ahead more first mid last xs ys a b =
    ap (λ (action : Action). action (between first)) (steps_append Inside ahead more)
    ∙ ap (λ (o : Outcome). continue o.refusal o (writer_steps Inside more)) a ∙ ap (prepend xs) b

-- ---- what is joined goes to the writer

style_stays : {action : Action} {start now : WriterView} → HasDone action start now → now.style ≡ start.style
style_stays d = ap (λ v. v.style) d.view

-- where an item or key may come, what is joined is written as the calls are that it stands for
as_calls : (ahead : List Call) (first then_first : Bool) (text : List ℕ) (state : WriterState) → state ≡ between first → WritesBetween ahead first text then_first
    → (write text sets set_empty then_first) state ≡ writer_steps Inside ahead state
as_calls ahead first then_first text state e w =
    ap (write text sets set_empty then_first) e ∙ sym w ∙ ap (writer_steps Inside ahead) (sym e)

module _ {start now : WriterView} {calls : List Call} {is_first : Bool} {joined : List ℕ} (m : AreMade start calls now (Some is_first) joined) where
  alike : (write joined sets set_empty is_first) now.state ≡ writer_steps Inside m.ahead now.state
  alike = as_calls m.ahead m.stands.0 is_first joined now.state m.stands.1.0 m.stands.1.1

  taken : {new : WriterView} → HasDone (write joined sets set_empty is_first) now new → HasDone (writer_steps Inside m.ahead) now new
  taken {new} d = does_alike (write joined sets set_empty is_first) (writer_steps Inside m.ahead) (Ok tt) now new alike d

  -- the writer takes what is joined: after that it has all calls
  pub passed_done : {new : WriterView} → HasDone (write joined sets set_empty is_first) now new → HasDone (writer_steps Inside calls) start new
  passed_done {new} d = subst (λ made. HasDone (writer_steps Inside made) start new) (sym m.same) (done_both m.done m.ahead m.has (taken d))

  -- an item or a key may come
  passed_state : {new : WriterView} → HasDone (write joined sets set_empty is_first) now new → new.state ≡ between is_first
  passed_state d =
      ap (λ v. v.state) (taken d).view ∙ ap (λ state. (writer_steps Inside m.ahead state).state) m.stands.1.0 ∙ ap (λ (o : Outcome). o.state) m.stands.1.1

  -- the next item is joined behind nothing
  pub passed_made : {new : WriterView} → HasDone (write joined sets set_empty is_first) now new → AreMade start calls new (Some is_first) []
  passed_made d = record { done = calls; ahead = []; same = sym (append-nil calls); has = passed_done d; stands = (is_first, (passed_state d, refl)) }

  passed_stopped : {new : WriterView} → IsStopped (write joined sets set_empty is_first) now new → IsStopped (writer_steps Inside calls) start new
  passed_stopped {new} stop =
      let stopped : IsStopped (writer_steps Inside m.ahead) now new = record { left = subst (λ (o : Outcome). IsLeftBy new.target.why o.refusal o.written now.target.told new.target.told) alike stop.left; name = stop.name } in
      subst (λ made. IsStopped (writer_steps Inside made) start new) (sym m.same) (stopped_behind m.done m.ahead m.has stopped)

  pub passed_stop : {new : WriterView} (more : List Call) → IsStopped (write joined sets set_empty is_first) now new → IsStopped (writer_steps Inside (calls ++ more)) start new
  passed_stop more stop = stopped_before calls more (passed_stopped stop)

  pub passed_on : (new : WriterView) (next : List ℕ) (r : Result (Unit {0}) Error) → Does (write joined sets set_empty is_first) r now new → OnOk r (next ≡ []) → MakesCalls r start calls new (Some is_first) next
  passed_on new next (Ok done) d e = subst (λ left. AreMade start calls new (Some is_first) left) (sym e) (passed_made d)
  passed_on new next (Err refusal) d e = passed_stopped d

-- where a `?` passes on an error
pub made_stops : {start now : WriterView} (calls : List Call) (is_first : Option Bool) (joined : List ℕ) (r : Result (Unit {0}) Error) → IsErr r → IsStopped (writer_steps Inside calls) start now → MakesCalls r start calls now is_first joined
made_stops calls is_first joined (Ok done) e stop = cc e
made_stops calls is_first joined (Err refusal) e stop = stop

-- where this is so of the first item or key
pub made_at : {start now : WriterView} {calls : List Call} {is_first : Option Bool} {first : Bool} {joined : List ℕ} → is_first ≡ Some first → AreMade start calls now is_first joined → AreMade start calls now (Some first) joined
made_at {start} {now} {calls} {joined = joined} e m = subst (λ found. AreMade start calls now found joined) e m

-- ---- the next node

-- its JSON is joined
pub joined_on : {start now : WriterView} {calls : List Call} {is_first then_first : Bool} {joined next : List ℕ} (more : List Call) → AreMade start calls now (Some is_first) joined → JoinsCalls true more is_first then_first joined next
    → AreMade start (calls ++ more) now (Some then_first) next
joined_on {start} {now} {calls} {is_first} {then_first} {joined} {next} more m j =
    let (first, (is, w)) = m.stands in
    let (text, (same, b)) = j in
    record {
      done = m.done;
      ahead = m.ahead ++ more;
      same = ap (λ made. made ++ more) m.same ∙ append_assoc m.done m.ahead more;
      has = m.has;
      stands = (first, (is, subst (λ text. WritesBetween (m.ahead ++ more) first text then_first) (sym same) (writes_both m.ahead more first is_first then_first joined text w b)));
    }

some_is : {a b : Bool} → Some a ≡ Some b → a ≡ b
some_is e = cc e

-- where the first item or key may come, that is so of the state
outside_is : (named quoted : Bool) (handler : Handler) (empty : Bool) (is_first : Bool) → first_outside named quoted handler empty ≡ Some is_first
    → (let state : WriterState = record { named = named; empty = empty; quoted = quoted; handler = handler } in state) ≡ between is_first
outside_is false true escapes empty is_first e = ap between (some_is e)
outside_is false true copies empty is_first e = cc e
outside_is false true (reads machine) empty is_first e = cc e
outside_is false false handler empty is_first e = cc e
outside_is true quoted handler empty is_first e = cc e

stands_alone : (state : WriterState) (found : Option Bool) → found ≡ is_first_at state → StandsFor state [] found []
stands_alone state None e = (refl, refl)
stands_alone state (Some is_first) e = (is_first, (outside_is state.named state.quoted state.handler state.empty is_first (sym e), refl))

-- the writer takes its calls
pub taken_on : {start : WriterView} {now new : Standing WriterView} {found : Option Bool} (calls more : List Call) → start.style ≡ Inside → HasDone (writer_steps Inside calls) start now.view → Streams writer_law now (makes more) new → found ≡ is_first_at new.view.state
    → AreMade start (calls ++ more) new.view found []
taken_on {start} {now} {new} {found} calls more style has s e =
    let inside : now.view.style ≡ Inside = style_stays has ∙ style in
    let taken = subst (λ style. HasDone (writer_steps style more) now.view new.view) inside (ran_as more now.view new.view s.ran) in
    record { done = calls ++ more; ahead = []; same = sym (append-nil (calls ++ more)); has = done_both calls more has taken; stands = stands_alone new.view.state found e }

pub stops_on : {start : WriterView} {now new : Standing WriterView} (calls more : List Call) → start.style ≡ Inside → HasDone (writer_steps Inside calls) start now.view → Stops writer_law now (makes more) new
    → IsStopped (writer_steps Inside (calls ++ more)) start new.view
stops_on {start} {now} {new} calls more style has s =
    let inside : now.view.style ≡ Inside = style_stays has ∙ style in
    by_ending (subst (λ style. IsStopped (writer_steps style more) now.view new.view) inside (stop_of_ending (ending_of now new more false now.view s.stopped)))
  where
    stop_of_ending : Ending now.view (makes more) new.view → IsStopped (writer_steps now.view.style more) now.view new.view
    stop_of_ending (refused e d) = cc e
    stop_of_ending (failed stop) = stop

    by_ending : IsStopped (writer_steps Inside more) now.view new.view → IsStopped (writer_steps Inside (calls ++ more)) start new.view
    by_ending stop = stopped_behind calls more has stop

-- ---- node by node

-- of all nodes these are left, and the calls of those before them were made
pub record AreWrittenTo (start : WriterView) (bytes : List ℕ) (all left : List Node) (now : WriterView) (is_first : Option Bool) (joined : List ℕ) : Type 0 where
  pub kept : NodesStand bytes left
  pub calls : List Call
  pub all_is : streamed_items bytes all ≡ calls ++ streamed_items bytes left
  pub made : AreMade start calls now is_first joined

pub nodes_begin : (start : WriterView) (bytes : List ℕ) (nodes : List Node) (joined : List ℕ) → start.state ≡ between true → joined ≡ [] → NodesStand bytes nodes → AreWrittenTo start bytes nodes nodes start (Some true) joined
nodes_begin start bytes nodes joined e j k = record {
  kept = k;
  calls = [];
  all_is = refl;
  made = record { done = []; ahead = []; same = refl; has = nothing_done start; stands = (true, (e, ap (wrote (between true)) (sym j))) };
}

module _ {start now : WriterView} {bytes : List ℕ} {is_first : Option Bool} {joined : List ℕ} (nodes : List Node) (i : ℕ) (d : Node) (s : AreWrittenTo start bytes nodes (drop i nodes) now is_first joined) (within : i < length nodes) where
  node_here : NodesStand bytes (get_or nodes i d ∷ drop (i + 1) nodes)
  node_here = subst (NodesStand bytes) (here nodes i d within) s.kept

  pub stands_here : NodeStands bytes (get_or nodes i d)
  stands_here = node_here.0

  left_is : streamed_items bytes nodes ≡ (s.calls ++ cbor_node_calls bytes (get_or nodes i d)) ++ streamed_items bytes (drop (i + 1) nodes)
  left_is =
      s.all_is ∙ ap (λ left. s.calls ++ streamed_items bytes left) (here nodes i d within)
      ∙ sym (append_assoc s.calls (cbor_node_calls bytes (get_or nodes i d)) (streamed_items bytes (drop (i + 1) nodes)))

  pub nodes_on : {new : WriterView} {next_first : Option Bool} {next : List ℕ} → AreMade start (s.calls ++ cbor_node_calls bytes (get_or nodes i d)) new next_first next
      → AreWrittenTo start bytes nodes (drop (i + 1) nodes) new next_first next
  nodes_on made = record { kept = node_here.1; calls = s.calls ++ cbor_node_calls bytes (get_or nodes i d); all_is = left_is; made = made }

  pub nodes_stop : {new : WriterView} → IsStopped (writer_steps Inside (s.calls ++ cbor_node_calls bytes (get_or nodes i d))) start new → IsStopped (writer_steps Inside (streamed_items bytes nodes)) start new
  nodes_stop {new} stop =
      subst (λ made. IsStopped (writer_steps Inside made) start new) (sym left_is) (stopped_before (s.calls ++ cbor_node_calls bytes (get_or nodes i d)) (streamed_items bytes (drop (i + 1) nodes)) stop)

module _ {start now : WriterView} {bytes : List ℕ} {nodes left : List Node} {joined : List ℕ} (none : left ≡ []) where
  all_calls : {is_first : Option Bool} (s : AreWrittenTo start bytes nodes left now is_first joined) → streamed_items bytes nodes ≡ s.calls
  all_calls s = s.all_is ∙ ap (λ left. s.calls ++ streamed_items bytes left) none ∙ append-nil s.calls

  -- at the end the writer takes what is joined
  pub nodes_end : {is_first : Option Bool} {first : Bool} (new : WriterView) (r : Result (Unit {0}) Error) → is_first ≡ Some first → AreWrittenTo start bytes nodes left now is_first joined → Does (write joined sets set_empty first) r now new
      → Does (writer_steps Inside (streamed_items bytes nodes)) r start new
  nodes_end {first = first} new (Ok done) e s d =
      subst (λ made. HasDone (writer_steps Inside made) start new) (sym (all_calls s)) (passed_done (subst (λ found. AreMade start s.calls now found joined) e s.made) d)
  nodes_end {first = first} new (Err refusal) e s d =
      let stop = passed_stop (subst (λ found. AreMade start s.calls now found joined) e s.made) [] d in
      subst (λ made. IsStopped (writer_steps Inside made) start new) (sym (all_calls s ∙ sym (append-nil s.calls))) stop

-- ---- a fresh writer that was stopped

pub steps_stopped : {K : Type 0} (told : K → Told) (sink : MutBor K) (calls : List Call) (begun new : JsonWriter K) (found : ErrorKind) → begun ≡ fresh_writer sink Inside
    → IsStopped (writer_steps Inside calls) (writer_view told begun) (writer_view told new) → found ≡ error_kind (stop_of new)
    → WritesSteps calls (Err found) (told sink.now) (told (sink_of new).now) × ((sink_of new).ghost_name ≡ sink.ghost_name)
steps_stopped {K} told sink calls begun new found is stop e =
    let fresh = subst (λ (w : JsonWriter K). IsStopped (writer_steps Inside calls) (writer_view told w) (writer_view told new)) is stop in
    let after = after_failure told (makes calls) (fresh_writer sink Inside) new refl fresh in
    let steps : WritesSteps calls (Err (error_kind (stop_of new))) (told sink.now) (told (sink_of new).now) = record {
      written = tt;
      steady = tt;
      refused = λ why is. after.refused why cc;
      willing = λ generic. let ends = after.generic cc in let never : false ≡ true = ends.refuses in cc never;
      io = λ is. after.io cc;
      io_room = λ is. after.io_room cc;
      io_short = λ is. after.io_short cc;
      no_memory = λ is. after.no_memory cc;
      no_memory_short = λ is. after.no_memory_short cc;
      counts = after.counts;
      prefix = after.prefix;
    } in
    (subst (λ (kind : ErrorKind). WritesSteps calls (Err kind) (told sink.now) (told (sink_of new).now)) (sym e) steps, after.name)
