-- What values of this crate emit that others hold.
use Rattle.sval_core.specs.Law.{Emission}
use Rattle.std.specs.Prelude.{[], ◌∷◌}
use Rattle.sval.specs.Fields.{a_struct, field, newtype, tuple_struct, unit_variant, value_variant, tuple_variant, struct_variant, bool_emission, u16_emission, u32_emission, i32_emission, i64_emission, text_emission, string_emission, option_emission, vec_emission, map_emission, binary_emission}
use Rattle.records.specs.declared.site.Site.{Site}
use Rattle.records.specs.declared.order.Item.{Item}
use Rattle.records.specs.declared.order.Payment.{Payment}
use Rattle.records.specs.declared.order.Payment.TheVariants as payment
use Rattle.records.specs.declared.order.Order.{Order}
use Rattle.records.specs.declared.request.Headers.{Headers}
use Rattle.records.specs.declared.request.Body.{Body}
use Rattle.records.specs.declared.shapes.Metres.{Metres}
use Rattle.records.specs.declared.shapes.Point.{Point}
use Rattle.records.specs.declared.shapes.Shape.{Shape}
use Rattle.records.specs.declared.shapes.Shape.TheVariants as shape

-- a place in the program
abbrev pub site_emission : Site → Emission
site_emission site = a_struct "Site" (
    field "file" (string_emission site.file) ∷
    field "line" (u32_emission site.line) ∷ [])

-- a line of an order
abbrev pub item_emission : Item → Emission
item_emission item = a_struct "Item" (
    field "name" (text_emission item.name) ∷
    field "count" (i64_emission item.count) ∷ [])

-- how an order is paid
abbrev pub payment_emission : Payment → Emission
payment_emission payment.Open = unit_variant "Payment" "Open" 0
payment_emission (payment.Transfer reference) = value_variant "Payment" "Transfer" 1 (string_emission reference)
payment_emission (payment.Card digits charged) = struct_variant "Payment" "Card" 2 (
    field "digits" (u16_emission digits) ∷
    field "charged" (bool_emission charged) ∷ [])

-- an order
abbrev pub order_emission : Order → Emission
order_emission order = a_struct "Order" (
    field "id" (i64_emission order.id) ∷
    field "sent" (bool_emission order.sent) ∷
    field "customer" (string_emission order.customer) ∷
    field "remark" (option_emission i64_emission order.remark) ∷
    field "first" (item_emission order.first) ∷
    field "others" (vec_emission item_emission order.others) ∷
    field "payment" (payment_emission order.payment) ∷ [])

-- a length in metres
abbrev pub metres_emission : Metres → Emission
metres_emission metres = newtype "Metres" (u32_emission metres.0)

-- a point of a plane
abbrev pub point_emission : Point → Emission
point_emission point = tuple_struct "Point" (i32_emission point.0 ∷ i32_emission point.1 ∷ [])

-- a shape in a plane
abbrev pub shape_emission : Shape → Emission
shape_emission shape.Empty = unit_variant "Shape" "Empty" 0
shape_emission (shape.Circle radius) = value_variant "Shape" "Circle" 1 (metres_emission radius)
shape_emission (shape.Segment from to) = tuple_variant "Shape" "Segment" 2 (point_emission from ∷ point_emission to ∷ [])
shape_emission (shape.Rectangle width height) = struct_variant "Shape" "Rectangle" 3 (
    field "width" (metres_emission width) ∷
    field "height" (metres_emission height) ∷ [])

-- headers are a map of their names
abbrev pub headers_emission : Headers → Emission
headers_emission headers = map_emission string_emission string_emission headers.0.items

-- a body is a binary
abbrev pub body_emission : Body → Emission
body_emission body = binary_emission body.0.items
