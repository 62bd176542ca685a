mod Asked
mod Judged
mod Ended
