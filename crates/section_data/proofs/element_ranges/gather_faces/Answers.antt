-- They are the elements of one type.
use Rattle.model.specs.Elements.{face_section, has_face, face_of}
use Rattle.section_data.specs.Ranges.{has_of, of_type}
use Rattle.section_data.proofs.element_ranges.gather_faces.Goals as goal

pub returns : goal.returns
unfolding of_type has_of face_of has_face face_section
returns c = c.gather.ensures
