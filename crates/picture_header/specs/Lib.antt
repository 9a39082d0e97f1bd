-- The picture format, and what is judged of a picture's header. Assumes nothing.

pub mod Layout
pub mod Headers
