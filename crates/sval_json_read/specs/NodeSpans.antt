-- How many nodes the value has that some nodes begin with.
use Rattle.std.specs.Prelude.{ℕ, zero, suc, ◌-◌, List, [], ◌∷◌}
use Rattle.sval_json_read.specs.Nodes.{Kept, Null, Truth, Number, Text, BeginArray, EndArray, BeginObject, EndObject, JsonNode}

-- how many arrays and objects are open behind a node, where so many are before it
abbrev pub depth_behind : Kept → ℕ → ℕ
depth_behind Null depth = depth
depth_behind (Truth b) depth = depth
depth_behind (Number from upto) depth = depth
depth_behind (Text from upto) depth = depth
depth_behind BeginArray depth = suc depth
depth_behind EndArray depth = depth - 1
depth_behind BeginObject depth = suc depth
depth_behind EndObject depth = depth - 1

-- nothing more counts where nothing is open
abbrev pub while_open : ℕ → ℕ → ℕ
while_open zero more = zero
while_open (suc depth) more = more

-- how many nodes stand up to the first behind which nothing is open
abbrev pub span : ℕ → List JsonNode → ℕ
span depth [] = zero
span depth (node ∷ nodes) = suc (while_open (depth_behind node.kept depth) (span (depth_behind node.kept depth) nodes))
