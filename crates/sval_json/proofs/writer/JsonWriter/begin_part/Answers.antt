use Rattle.sval_json.proofs.writer.JsonWriter.begin_part.Goals as goal

pub returns-in-Field : goal.returns-in-Field
returns-in-Field g c = rw c.in-Field.is c.begin_field.ensures

pub returns-in-FieldPlace : goal.returns-in-FieldPlace
returns-in-FieldPlace g c = rw c.in-FieldPlace.is c.begin_field-in-FieldPlace.ensures
