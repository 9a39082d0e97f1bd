-- What reading a written picture gives. Assumes nothing.

pub mod RoundTrip
